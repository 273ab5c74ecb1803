use Rattle.std.proofs.Common.{◌≡◌, drop}
use Rattle.vcm_said.specs.All.{needs_planes}
use Rattle.vcm_said.proofs.said.needs_planes.Given as goal

abbrev pub invariant-loop-logical : goal.invariant-loop-logical
invariant-loop-logical l = record {
  left : needs_planes l.lines ≡ needs_planes (drop l.logical-index l.lines);
}
