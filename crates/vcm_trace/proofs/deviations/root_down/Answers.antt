use Rattle.std.proofs.Common.{rules}
use Rattle.vcm_trace.proofs.Roots.{root_down_is}
use Rattle.vcm_trace.proofs.deviations.root_down.Goals as goal

pub returns : goal.returns
returns c = root_down_is c.args.n c.isqrt.result (search rules) c.isqrt.ensures.square_le c.isqrt.ensures.next_square_gt
