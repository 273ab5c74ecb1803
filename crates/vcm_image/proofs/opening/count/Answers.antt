use Rattle.std.proofs.Common.{rules}
use Rattle.vcm_image.proofs.opening.count.Goals as goal

pub returns : goal.returns
returns c = search rules
