use Rattle.std.proofs.Common.{◌≡◌, drop}
use Rattle.vcm_plain.specs.Numbers.{unread, lone_from}
use Rattle.vcm_plain.proofs.lone.lone_of.Given as goal

abbrev pub invariant-loop-byte : goal.invariant-loop-byte
invariant-loop-byte l = record {
  left : lone_from unread l.bytes ≡ lone_from l.lone (drop l.byte-index l.bytes);
}
