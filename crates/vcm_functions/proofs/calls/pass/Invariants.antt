use Rattle.std.proofs.Common.{◌≡◌, drop}
use Rattle.vcm_functions.specs.Calls.{read_from, nothing_read}
use Rattle.vcm_functions.proofs.calls.pass.Given as goal

abbrev pub invariant-loop-byte : goal.invariant-loop-byte
invariant-loop-byte l = record {
  left : read_from nothing_read l.bytes ≡ read_from l.reader (drop l.byte-index l.bytes);
}
