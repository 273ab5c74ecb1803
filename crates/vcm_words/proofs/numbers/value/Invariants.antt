use Rattle.std.proofs.Common.{◌≡◌, ◌^◌, ◌<◌, drop}
use Rattle.vcm_num.specs.Literals.{AllDigits, number_after}
use Rattle.vcm_words.proofs.numbers.value.Given as goal

abbrev pub invariant-loop-byte : goal.invariant-loop-byte
invariant-loop-byte l = record {
  below : l.number < 2 ^ 64;
  digits : AllDigits (drop l.byte-index l.digits);
  same : number_after 0 l.digits ≡ number_after l.number (drop l.byte-index l.digits);
}
