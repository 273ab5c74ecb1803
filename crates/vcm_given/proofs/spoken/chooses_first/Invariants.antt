use Rattle.std.proofs.Common.{◌≡◌, drop}
use Rattle.vcm_given.specs.Spoken.{chooses_first}
use Rattle.vcm_given.proofs.spoken.chooses_first.Given as goal

abbrev pub invariant-loop-logical : goal.invariant-loop-logical
invariant-loop-logical l = record {
  left : chooses_first l.lines ≡ chooses_first (drop l.logical-index l.lines);
}
