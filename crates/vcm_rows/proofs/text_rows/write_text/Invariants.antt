use Rattle.std.proofs.Common.{length}
use Rattle.vcm_print.proofs.Steps.{TookUpTo}
use Rattle.vcm_rows.specs.Opening.{text_rows}
use Rattle.vcm_rows.proofs.text_rows.write_text.Given as goal

abbrev pub invariant-loop-rest : goal.invariant-loop-rest
invariant-loop-rest g l = TookUpTo (g.W.Write.contents l.fn.writer) (g.W.Write.contents l.writer) (text_rows l.rest) (text_rows l.text)

abbrev pub decreases-loop-rest : goal.decreases-loop-rest
decreases-loop-rest g l = length l.rest
