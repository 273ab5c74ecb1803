use Rattle.std.proofs.Common.{◌≡◌, drop}
use Rattle.std.specs.Prelude.{◌&&◌}
use Rattle.std.specs.List.{list_all}
use Rattle.vcm_spec.specs.TextBytes.{is_text_byte}
use Rattle.vcm_spec.proofs.texts.are_text_bytes.Given as goal

-- The bytes so far and those that are left are texts' bytes where all are.
abbrev pub invariant-loop-byte : goal.invariant-loop-byte
invariant-loop-byte l = (l.all && list_all is_text_byte (drop l.byte-index l.bytes)) ≡ list_all is_text_byte l.bytes
