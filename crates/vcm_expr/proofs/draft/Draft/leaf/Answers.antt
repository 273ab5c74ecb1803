use Rattle.std.proofs.Common.{refl}
use Rattle.vcm_expr.proofs.PieceLemmas.{leaf_holds, leaf_view}
use Rattle.vcm_expr.proofs.draft.Draft.leaf.Goals as goal

pub invariant_of-self-2 : goal.invariant_of-self-2
invariant_of-self-2 c = leaf_holds c.args.term _ _ c.self.invariant (rw c.leaf.ensures at c.in_ok-push.ensures.items)

pub returns-clause-ok : goal.returns-clause-ok
returns-clause-ok c = (leaf_view c.args.term _ _ _ c.self.view_is c.self.invariant (rw c.leaf.ensures at c.in_ok-push.ensures.items), record { depth = refl; nodes = refl; small = refl })
