use Rattle.std.proofs.Common.{◌≡◌, ◌++◌, drop}
use Rattle.vcm_plain.specs.Fine.{exact_text, exact_from}
use Rattle.vcm_plain.proofs.fine.put_each.Given as goal

abbrev pub invariant-loop-byte : goal.invariant-loop-byte
invariant-loop-byte l = record {
  left : l.initial.out.items ++ exact_text l.bytes ≡ l.out.items ++ exact_from l.figure (drop l.byte-index l.bytes);
}
