use Rattle.std.proofs.Common.{◌≡◌, ◌≤◌, drop}
use Rattle.vcm_plain.specs.Fine.{has_run}
use Rattle.vcm_plain.proofs.fine.has_fine.Given as goal

abbrev pub invariant-loop-byte : goal.invariant-loop-byte
invariant-loop-byte l = record {
  left : has_run 0 l.bytes ≡ has_run l.run (drop l.byte-index l.bytes);
  most : l.run ≤ 4;
}
