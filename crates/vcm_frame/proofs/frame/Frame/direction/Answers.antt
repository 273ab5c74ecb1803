use Rattle.std.proofs.Common.{rules}
use Rattle.vcm_frame.proofs.frame.Frame.direction.Goals as goal

pub returns : goal.returns
returns c = search rules
