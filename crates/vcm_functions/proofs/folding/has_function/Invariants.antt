use Rattle.std.proofs.Common.{◌≡◌, [], drop}
use Rattle.vcm_functions.specs.Folded.{has_call}
use Rattle.vcm_functions.proofs.folding.has_function.Given as goal

abbrev pub invariant-loop-byte : goal.invariant-loop-byte
invariant-loop-byte l = record {
  left : has_call [] l.bytes ≡ has_call l.word.items (drop l.byte-index l.bytes);
}
