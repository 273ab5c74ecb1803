use Rattle.vcm_picture.proofs.MarkShapes.{marks_are_drawn}
use Rattle.vcm_picture.proofs.laws.each_mark_is_drawn.Goals as goal

pub returns : goal.returns
returns c = marks_are_drawn
