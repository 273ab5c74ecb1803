use Rattle.std.proofs.Common.{◌≡◌, ◌^◌, ◌<◌, drop}
use Rattle.vcm_num.specs.Literals.{AllDigits, number_after}
use Rattle.vcm_console.proofs.parsing.value_of.Given as goal

abbrev pub invariant-loop-byte : goal.invariant-loop-byte
invariant-loop-byte l = record {
  below : l.value < 10 ^ l.byte-index;
  digits : AllDigits (drop l.byte-index l.digits);
  same : number_after 0 l.digits ≡ number_after l.value (drop l.byte-index l.digits);
}
