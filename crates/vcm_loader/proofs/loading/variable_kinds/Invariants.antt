use Rattle.vcm_loader.proofs.Lines.{KindsUpTo}
use Rattle.vcm_loader.proofs.loading.variable_kinds.Given as goal

abbrev pub invariant-loop-n : goal.invariant-loop-n
invariant-loop-n l = KindsUpTo l.image.code.tables.variables l.n l.kinds.items
