use Rattle.std.proofs.Common.{List, ◌++◌, drop}
use Rattle.vcm_forms.specs.declared.statement.Statement.{Statement}
use Rattle.vcm_backtrace.specs.Sources.{AreReadAs}
use Rattle.vcm_backtrace.proofs.source.read_all.Given as goal

abbrev pub invariant-loop-line : goal.invariant-loop-line
invariant-loop-line l = (rest : List Statement) → AreReadAs (drop l.line-index l.lines) rest → AreReadAs l.lines (l.statements.items ++ rest)
