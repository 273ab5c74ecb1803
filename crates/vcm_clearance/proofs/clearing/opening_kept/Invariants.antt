use Rattle.std.proofs.Common.{◌≡◌, ◌++◌, drop}
use Rattle.vcm_clearance.specs.inner.Following.{opening_kept}
use Rattle.vcm_clearance.proofs.clearing.opening_kept.Given as goal

abbrev pub invariant-loop-tried : goal.invariant-loop-tried
invariant-loop-tried l = l.kept.items ++ opening_kept l.count (drop l._tried-index l.boxes) ≡ opening_kept l.count l.boxes
