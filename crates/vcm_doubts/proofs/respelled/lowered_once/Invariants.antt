use Rattle.std.proofs.Common.{◌≡◌, [], drop, filter}
use Rattle.vcm_doubts.specs.Spellings.{is_lowered, once}
use Rattle.vcm_doubts.proofs.respelled.lowered_once.Given as goal

abbrev pub invariant-loop-word : goal.invariant-loop-word
invariant-loop-word l = record {
  left : once l.found (filter is_lowered (drop l.word-index l.words)) ≡ once [] (filter is_lowered l.words);
}
