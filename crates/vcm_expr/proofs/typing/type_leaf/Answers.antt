use Rattle.std.proofs.lemmas.Result.{err_from_is_err_and}
use Rattle.vcm_expr.proofs.TypedItems.{leaf_placed, leaf_told}
use Rattle.vcm_expr.proofs.typing.type_leaf.Goals as goal

pub returns-in_err-x-clause-fault : goal.returns-in_err-x-clause-fault
returns-in_err-x-clause-fault c =
    let p = err_from_is_err_and c.from_residual.result c.from_residual.ensures.1 in
    let f = c.in_err-x.ensures.fault in
    rw (p.1, p.2) (f.0, leaf_told c.args.names.now c.args.want c.args.term.now _ f.1)

pub returns-in_err-typed-clause-fault : goal.returns-in_err-typed-clause-fault
returns-in_err-typed-clause-fault c =
    let p = err_from_is_err_and c.from_residual-in_err-typed.result c.from_residual-in_err-typed.ensures.1 in
    let f = c.in_err-typed.ensures.fault in
    rw (p.1, p.2) (f.0, leaf_placed c.args.names.now c.args.want c.args.term.now c.in_ok-x.kind c.in_ok-x.x _ c.in_ok-x.ensures.ok f.1)

pub returns-clause-ok : goal.returns-clause-ok
returns-clause-ok c = leaf_placed c.args.names.now c.args.want c.args.term.now c.in_ok-x.kind c.in_ok-x.x _ c.in_ok-x.ensures.ok c.in_ok-typed.ensures.ok
