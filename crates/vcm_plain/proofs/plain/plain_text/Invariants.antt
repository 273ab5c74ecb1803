use Rattle.std.proofs.Common.{◌≡◌, drop}
use Rattle.vcm_plain.specs.Plain.{read_from, nothing_read}
use Rattle.vcm_plain.proofs.plain.plain_text.Given as goal

abbrev pub invariant-loop-byte : goal.invariant-loop-byte
invariant-loop-byte l = record {
  left : read_from l.lengths.several (nothing_read l.lengths.unit) l.text ≡ read_from l.lengths.several l.reader (drop l.byte-index l.text);
}
