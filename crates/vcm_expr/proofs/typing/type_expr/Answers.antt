use Rattle.std.proofs.Common.{inr}
use Rattle.std.proofs.lemmas.Result.{err_from_is_err_and}
use Rattle.vcm_expr.specs.Source.{Plain}
use Rattle.vcm_expr.proofs.PieceLemmas.{plain_is}
use Rattle.vcm_expr.proofs.TypedItems.{leaf_fault, typed_kind}
use Rattle.vcm_expr.proofs.typing.type_expr.Goals as goal

pub returns-in_err-typed-clause-fault : goal.returns-in_err-typed-clause-fault
returns-in_err-typed-clause-fault c =
    let p = err_from_is_err_and c.from_residual.result c.from_residual.ensures.1 in
    rw (p.1, p.2) (leaf_fault c.args.names.now c.args.want c.in-Some.term c.args.e.now c.args.line _ (plain_is c.in-Some.term c.args.e.now c.in-Some.ensures) (inr c.in_err-typed.ensures.fault))

pub returns-in-Some-clause-kind : goal.returns-in-Some-clause-kind
returns-in-Some-clause-kind c = typed_kind c.args.names.now c.args.want (Plain c.in-Some.term) _ c.in_ok-typed.ensures.ok

pub returns-clause-kind : goal.returns-clause-kind
returns-clause-kind c = typed_kind c.args.names.now c.args.want c.args.e.now _ (c.in_ok-typed-2.ensures.ok c.args.e.now c.pieces.ensures.parts)
