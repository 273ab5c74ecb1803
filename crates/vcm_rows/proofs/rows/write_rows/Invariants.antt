use Rattle.std.proofs.Common.{take}
use Rattle.std.specs.Io.KnownBytes.{Appends}
use Rattle.std.specs.Prelude.{flat_map}
use Rattle.vcm_rows.proofs.rows.write_rows.Given as goal

abbrev pub invariant-loop-thing : goal.invariant-loop-thing
invariant-loop-thing g l = record {
  written : Appends (g.W.Write.contents l.fn.writer) (g.W.Write.contents l.writer) (flat_map (g.R.Rows.row_of l.rows) (take l.thing-index l.things));
}
