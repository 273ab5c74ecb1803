use Rattle.vcm_why.proofs.approaches.write_free_if.Goals as goal

pub returns-in-Some : goal.returns-in-Some
returns-in-Some g c = rw c.in-Some.is c.write_free.ensures
