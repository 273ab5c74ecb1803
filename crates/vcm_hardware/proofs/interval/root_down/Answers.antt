use Rattle.std.proofs.Common.{rules}
use Rattle.vcm_hardware.proofs.Roots.{root_down_is}
use Rattle.vcm_hardware.proofs.interval.root_down.Goals as goal

pub returns-clause-value : goal.returns-clause-value
returns-clause-value c = root_down_is c.args.n c.isqrt.result (search rules) c.isqrt.ensures.square_le c.isqrt.ensures.next_square_gt
