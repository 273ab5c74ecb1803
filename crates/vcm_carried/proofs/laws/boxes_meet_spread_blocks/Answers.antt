use Rattle.vcm_carried.proofs.Boxes.{boxes_meet}
use Rattle.vcm_carried.proofs.laws.boxes_meet_spread_blocks.Goals as goal

pub returns : goal.returns
returns c = boxes_meet
