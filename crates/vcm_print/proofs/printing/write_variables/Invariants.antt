use Rattle.std.proofs.Common.{drop}
use Rattle.vcm_words.specs.declared.row.Row.TheVariants.{Variable}
use Rattle.vcm_print.specs.inner.Written.{lines}
use Rattle.vcm_print.proofs.Steps.{TookUpTo}
use Rattle.vcm_print.proofs.printing.write_variables.Given as goal

abbrev pub invariant-loop-n : goal.invariant-loop-n
invariant-loop-n g l = TookUpTo (g.W.Write.contents l.fn.writer) (g.W.Write.contents l.writer) (lines Variable l.n (drop l.n l.loaded.tables.variables)) (lines Variable 0 l.loaded.tables.variables)
