use Rattle.vcm_kept.proofs.approaches.halt_declared.Goals as goal

pub returns : goal.returns
returns c = rw c.in_ok-asked.ensures at (rw c.direction_in-direction.ensures at c.halt.ensures)
