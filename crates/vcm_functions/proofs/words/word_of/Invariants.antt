use Rattle.std.proofs.Common.{◌≡◌, ◌++◌, drop}
use Rattle.vcm_functions.specs.Words.{word_of}
use Rattle.vcm_functions.proofs.words.word_of.Given as goal

abbrev pub invariant-loop-byte : goal.invariant-loop-byte
invariant-loop-byte l = record {
  left : word_of l.bytes ≡ l.word.items ++ word_of (drop l.byte-index l.bytes);
}
