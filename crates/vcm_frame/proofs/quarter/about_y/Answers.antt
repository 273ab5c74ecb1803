use Rattle.std.proofs.Common.{rules}
use Rattle.vcm_frame.proofs.quarter.about_y.Goals as goal

pub returns-in-PlusX : goal.returns-in-PlusX
returns-in-PlusX c = search rules
