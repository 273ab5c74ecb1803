use Rattle.std.specs.Io.KnownBytes.{Appends}
use Rattle.vcm_rows.specs.Rows.{rows_below}
use Rattle.vcm_rows.proofs.rows.write_numbered.Given as goal

abbrev pub invariant-loop-number : goal.invariant-loop-number
invariant-loop-number g l = record {
  written : Appends (g.W.Write.contents l.fn.writer) (g.W.Write.contents l.writer) (rows_below (g.R.Numbered.row_at l.rows) l.number);
}
