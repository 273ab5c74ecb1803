use Rattle.vcm_hardware.proofs.Balls.{still_boxes_are_held}
use Rattle.vcm_hardware.proofs.laws.still_boxes_are_held.Goals as goal

pub returns : goal.returns
returns c = still_boxes_are_held
