use Rattle.std.proofs.Common.{◌≡◌, drop}
use Rattle.vcm_sheet.specs.Ticks.{first_from}
use Rattle.vcm_sheet.proofs.ticks.first_from.Given as goal

abbrev pub invariant-loop-step : goal.invariant-loop-step
invariant-loop-step l = record { rest : first_from l.least (drop l.step-index l.steps) ≡ first_from l.least l.steps }
