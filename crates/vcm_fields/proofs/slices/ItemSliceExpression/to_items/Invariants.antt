use Rattle.std.proofs.Common.{◌≡◌, ◌++◌, length}
use Rattle.vcm_fields.proofs.slices.ItemSliceExpression.to_items.Given as goal

abbrev pub decreases-loop-item : goal.decreases-loop-item
decreases-loop-item l = length l.rest

abbrev pub invariant-loop-item : goal.invariant-loop-item
invariant-loop-item l = l.copy ++ l.rest ≡ l.self
