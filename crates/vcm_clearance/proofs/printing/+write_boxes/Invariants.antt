use Rattle.std.proofs.Common.{length}
use Rattle.vcm_clearance.proofs.printing.+write_boxes.Given as goal

abbrev pub decreases-write_boxes : goal.decreases-write_boxes
decreases-write_boxes g l = length l.boxes.now
