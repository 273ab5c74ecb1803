use Rattle.vcm_wire.proofs.FrameLemmas.{one_answer}
use Rattle.vcm_wire.proofs.laws.frames_are_one.Goals as goal

pub returns : goal.returns
returns c = one_answer
