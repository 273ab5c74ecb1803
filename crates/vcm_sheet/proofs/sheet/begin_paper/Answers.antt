use Rattle.vcm_sheet.proofs.Saying.{adds_none}
use Rattle.vcm_sheet.proofs.sheet.begin_paper.Goals as goal

pub returns-in-Some : goal.returns-in-Some
returns-in-Some c = c.begin_frame.ensures

pub returns-in-None : goal.returns-in-None
returns-in-None c = adds_none _
