use Rattle.std.proofs.Common.{◌≡◌, ◌++◌, drop}
use Rattle.vcm_clearance.specs.inner.Following.{opening}
use Rattle.vcm_clearance.proofs.clearing.opening_rooms.Given as goal

abbrev pub invariant-loop-tried : goal.invariant-loop-tried
invariant-loop-tried l = l.rooms.items ++ opening (drop l._tried-index l.boxes) ≡ opening l.boxes
