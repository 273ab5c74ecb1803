use Rattle.std.proofs.Common.{◌≡◌, drop, None}
use Rattle.vcm_given.specs.Tips.{width_onto}
use Rattle.vcm_given.proofs.tips.width_of.Given as goal

abbrev pub invariant-loop-logical : goal.invariant-loop-logical
invariant-loop-logical l = record {
  left : width_onto l.name None l.lines ≡ width_onto l.name l.known (drop l.logical-index l.lines);
}
