use Rattle.std.proofs.Common.{drop}
use Rattle.vcm_print.proofs.Steps.{TookUpTo}
use Rattle.vcm_print.proofs.Lines.{bytes_of}
use Rattle.vcm_print.proofs.statement.write_fields.Given as goal

abbrev pub invariant-loop-field : goal.invariant-loop-field
invariant-loop-field g l = TookUpTo (g.W.Write.contents l.fn.writer) (g.W.Write.contents l.writer) (bytes_of (drop l.field-index l.fields)) (bytes_of l.fields)
