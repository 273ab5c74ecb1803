use Rattle.std.proofs.Common.{◌≡◌, ◌++◌, drop, map}
use Rattle.vcm_lines.specs.Bytes.{upper}
use Rattle.vcm_short_names.proofs.long.raised.Given as goal

abbrev pub invariant-loop-byte : goal.invariant-loop-byte
invariant-loop-byte l = record {
  left : map upper l.word ≡ l.bytes ++ map upper (drop l.byte-index l.word);
}
