use Rattle.std.proofs.Common.{◌≡◌, false, drop}
use Rattle.vcm_whole.specs.Losses.{says_first}
use Rattle.vcm_whole.proofs.losses.says_first.Given as goal

abbrev pub invariant-loop-logical : goal.invariant-loop-logical
invariant-loop-logical l = record {
  left : says_first l.wanted false l.lines ≡ says_first l.wanted l.inside (drop l.logical-index l.lines);
}
