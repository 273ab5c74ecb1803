use Rattle.std.proofs.Common.{◌≡◌, map, length, take}
use Rattle.vcm_lines.specs.Bytes.{upper}
use Rattle.vcm_console.proofs.parsing.raised.Given as goal

abbrev pub invariant-loop-index : goal.invariant-loop-index
invariant-loop-index l = record {
  room : length l.own ≡ 16;
  same : take l.index l.own ≡ map upper (take l.index l.bytes);
}
