use Rattle.vcm_margin.proofs.Reached.{machine_on}
use Rattle.vcm_margin.proofs.own.MachineOwnRun.go_on.Goals as goal

pub returns : goal.returns
returns g c = λ part code n k at_old within measured. machine_on part code k _ _ _ _ at_old c.in_ok-step.ensures.ok c.shown_by.ensures
