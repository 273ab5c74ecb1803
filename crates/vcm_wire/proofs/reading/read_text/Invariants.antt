use Rattle.std.proofs.Common.{take}
use Rattle.std.specs.Io.KnownBytes.{Consumes}
use Rattle.vcm_wire.proofs.reading.read_text.Given as goal

abbrev pub invariant-loop-wanted : goal.invariant-loop-wanted
invariant-loop-wanted g l = record {
  taken : Consumes (g.R.Read.remaining l.fn.reader) (g.R.Read.remaining l.reader) (take l.wanted-index l.text);
}
