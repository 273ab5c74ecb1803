use Rattle.vcm_machine.proofs.SelectSteps.{Choosing}
use Rattle.vcm_machine.proofs.selecting.target_for.Given as goal

abbrev pub invariant-loop : goal.invariant-loop
invariant-loop l = Choosing l.value l.count l.bytes l.counter l.rest
