use Rattle.vcm_motion.proofs.any_part.AnyPartPart.first_hit.Goals as goal

pub returns-in-Few : goal.returns-in-Few
returns-in-Few c = rw c.in-Few.is c.first_hit.ensures

pub returns-in-Many : goal.returns-in-Many
returns-in-Many c = rw c.in-Many.is c.first_hit-in-Many.ensures
