use Rattle.vcm_backtrace.proofs.loops.write_if_round.Goals as goal

pub returns-in-Do : goal.returns-in-Do
returns-in-Do g c = rw c.in-Do.is c.write_open.ensures
