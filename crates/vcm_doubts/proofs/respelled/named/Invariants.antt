use Rattle.std.proofs.Common.{◌≡◌, ◌++◌, drop}
use Rattle.std.specs.List.{filter}
use Rattle.vcm_doubts.specs.Doubts.{is_among}
use Rattle.vcm_doubts.proofs.respelled.named.Given as goal

abbrev pub invariant-loop-word : goal.invariant-loop-word
invariant-loop-word l = record {
  left : filter (is_among l.names) l.words ≡ l.found ++ filter (is_among l.names) (drop l.word-index l.words);
}
