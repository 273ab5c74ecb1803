use Rattle.vcm_expr.proofs.TypedItems.{pair_spelled}
use Rattle.vcm_expr.proofs.typing.pair.Goals as goal

pub returns-clause-ok : goal.returns-clause-ok
returns-clause-ok c =
    pair_spelled c.args.op c.args.k c.args.l c.in-Some.kind _ _ _ _ _ _ c.args.between c.is_scaled-left.ensures c.is_scaled-right.ensures _ _ _
    c.scaled_kind.ensures c.scaled_kind-2.ensures c.kind_of_binary.ensures c.in-Some.is
    c.in_ok-scale_last.ensures.ok c.in_ok-scale_at.ensures.ok (rw c.new.ensures at c.in_ok-push.ensures.items)
