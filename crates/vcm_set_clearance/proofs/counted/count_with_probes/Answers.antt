use Rattle.vcm_set_clearance.proofs.counted.count_with_probes.Goals as goal

pub returns : goal.returns
returns g c = rw c.in_ok-machine.ensures at c.count_turns.ensures
