use Rattle.std.proofs.Common.{◌≡◌, drop}
use Rattle.vcm_compared.specs.Texts.{with_digits}
use Rattle.vcm_compared.proofs.texts.letters_of.Given as goal

abbrev pub invariant-loop-byte : goal.invariant-loop-byte
invariant-loop-byte l = record {
  left : with_digits 0 l.bytes ≡ with_digits l.number (drop l.byte-index l.bytes);
}
