use Rattle.std.proofs.Common.{◌≡◌, drop}
use Rattle.vcm_dap.specs.Untrying.{untried_at}
use Rattle.vcm_dap.proofs.showing.untried_at.Given as goal

abbrev pub invariant-loop-each : goal.invariant-loop-each
invariant-loop-each l = untried_at l.steps l.line l.untried ≡ untried_at l.steps l.line (drop l.each-index l.untried)
