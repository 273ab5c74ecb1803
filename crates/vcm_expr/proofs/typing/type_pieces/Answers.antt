use Rattle.std.proofs.lemmas.Result.{err_from_is_err_and}
use Rattle.vcm_expr.proofs.TypedItems.{parts_told, parts_place_told, typed_wanted, typed_small, typed_result, within_limits}
use Rattle.vcm_expr.proofs.typing.type_pieces.Goals as goal

pub typed-requires : goal.typed-requires
typed-requires c = c.requires

pub returns-in_err-kind-clause-fault : goal.returns-in_err-kind-clause-fault
returns-in_err-kind-clause-fault c =
    let p = err_from_is_err_and c.from_residual-in_err-kind.result c.from_residual-in_err-kind.ensures.1 in
    rw (p.1, p.2) (parts_told c.args.names.now c.args.want c.args.pieces.now c.args.line _ c.in_err-kind.ensures.fault)

pub returns-in_err-demand-clause-fault : goal.returns-in_err-demand-clause-fault
returns-in_err-demand-clause-fault c =
    let p = err_from_is_err_and c.from_residual-in_err-demand.result c.from_residual-in_err-demand.ensures.1 in
    rw (p.1, p.2) (parts_place_told c.args.names.now c.args.want c.args.pieces.now _ _ c.args.line _ (rw c.in_ok-items.ensures.items at c.in_ok-kind.ensures.ok) c.in_err-demand.ensures.fault)

pub new-requires : goal.new-requires
new-requires c =
    let s = c.requires.0 in
    let l = within_limits s c.requires.2 in
    rw c.shrink_to_fit.ensures.items (typed_small c.args.names.now c.args.want s _
    (typed_wanted c.args.names.now c.args.want s _ _ _ ((rw c.in_ok-items.ensures.items at c.in_ok-kind.ensures.ok) s c.requires.1) c.in_ok-demand.ensures.ok)
    l.0 l.1)

pub returns-clause-ok : goal.returns-clause-ok
returns-clause-ok c s is =
    (typed_result c.args.names.now c.args.want s _ c.new.result
    (typed_wanted c.args.names.now c.args.want s _ _ _ ((rw c.in_ok-items.ensures.items at c.in_ok-kind.ensures.ok) s is) c.in_ok-demand.ensures.ok)
    (rw c.shrink_to_fit.ensures.items at c.new.ensures)).0
