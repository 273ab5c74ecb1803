use Rattle.vcm_trace.proofs.deviations.origin_of.Goals as goal

pub returns : goal.returns
returns c = rw c.new.ensures at c.apply.ensures.answer
