use Rattle.std.proofs.Common.{◌≡◌, drop}
use Rattle.vcm_calls.specs.Chains.{macro_called}
use Rattle.vcm_calls.proofs.macros.macro_called.Given as goal

abbrev pub invariant-loop-statement : goal.invariant-loop-statement
invariant-loop-statement l = macro_called (drop l.statement-index l.statements) l.line ≡ macro_called l.statements l.line
