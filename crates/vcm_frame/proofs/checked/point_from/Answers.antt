use Rattle.std.proofs.Common.{rules}
use Rattle.vcm_frame.proofs.checked.point_from.Goals as goal

pub returns : goal.returns
returns c = search rules
