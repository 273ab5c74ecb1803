use Rattle.std.proofs.Common.{◌≡◌, drop}
use Rattle.vcm_short_names.specs.Pieces.{read_from}
use Rattle.vcm_short_names.specs.inner.Readers.{reading}
use Rattle.vcm_short_names.proofs.pieces.read_all.Given as goal

abbrev pub invariant-loop-byte : goal.invariant-loop-byte
invariant-loop-byte l = record {
  left : read_from (reading l.reader) (drop l.byte-index l.text) ≡ read_from (reading l.initial.reader) l.text;
}
