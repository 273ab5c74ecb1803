use Rattle.vcm_carried.proofs.Boxes.{wider_meet, unmoved_meet}
use Rattle.vcm_carried.proofs.laws.wider_boxes_meet_more.Goals as goal

pub returns-clause-wider : goal.returns-clause-wider
returns-clause-wider c = wider_meet

pub returns-clause-unmoved : goal.returns-clause-unmoved
returns-clause-unmoved c = unmoved_meet
