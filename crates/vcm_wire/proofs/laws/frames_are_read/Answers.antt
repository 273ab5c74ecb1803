use Rattle.vcm_wire.proofs.FrameLemmas.{frames_read}
use Rattle.vcm_wire.proofs.laws.frames_are_read.Goals as goal

pub returns : goal.returns
returns c = frames_read
