use Rattle.std.proofs.Common.{◌≡◌, ◌++◌, drop}
use Rattle.std.specs.List.{flat_map}
use Rattle.vcm_given.specs.Tips.{tip_by, other_tips}
use Rattle.vcm_given.proofs.tips.other_tips.Given as goal

abbrev pub invariant-loop-logical : goal.invariant-loop-logical
invariant-loop-logical l = record {
  left : other_tips l.probes l.tip l.lines ≡ l.out ++ flat_map (tip_by l.probes l.tip l.lines) (drop l.logical-index l.lines);
}
