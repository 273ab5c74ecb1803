use Rattle.std.proofs.Common.{◌≡◌, ◌==◌, drop}
use Rattle.std.specs.List.{position_from}
use Rattle.vcm_debug.proofs.finding.statement_on.Given as goal

abbrev pub invariant-loop-n : goal.invariant-loop-n
invariant-loop-n l = position_from (λ s. s.line == l.line) 0 l.loaded.statements ≡ position_from (λ s. s.line == l.line) l.n (drop l.n l.loaded.statements)
