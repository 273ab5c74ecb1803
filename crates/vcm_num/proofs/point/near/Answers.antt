use Rattle.std.proofs.Common.{rules}
use Rattle.vcm_num.proofs.point.near.Goals as goal

pub returns-then-z-geminus1000000000 : goal.returns-then-z-geminus1000000000
returns-then-z-geminus1000000000 c = search rules
