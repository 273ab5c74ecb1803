use Rattle.std.proofs.Common.{◌≡◌, drop}
use Rattle.vcm_dap.specs.Lines.{nearest, settled}
use Rattle.vcm_dap.proofs.breaking.settled.Given as goal

abbrev pub invariant-loop-n : goal.invariant-loop-n
invariant-loop-n l = nearest l.line l.least (drop l.n l.loaded.statements) ≡ settled l.loaded.statements l.line
