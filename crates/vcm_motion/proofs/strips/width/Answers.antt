use Rattle.std.proofs.Common.{arith}
use Rattle.vcm_num.specs.Point.{coordinate}
use Rattle.vcm_num.proofs.PointLemmas.{near_again, near_read}
use Rattle.vcm_motion.proofs.Inside.{reachable}
use Rattle.vcm_motion.proofs.Wide.{near_wide_again}
use Rattle.vcm_motion.proofs.strips.width.Goals as goal

pub rise-requires-clause-low : goal.rise-requires-clause-low
rise-requires-clause-low c = near_again _ (reachable c.args.bounds.now.low c.requires.low 0 (omega arith))

pub rise-requires-clause-x : goal.rise-requires-clause-x
rise-requires-clause-x c = near_wide_again _ (reachable c.args.bounds.now.high c.requires.high 0 (omega arith))

pub returns : goal.returns
returns c =
    let low = near_read (coordinate c.args.bounds.now.low 0) (reachable c.args.bounds.now.low c.requires.low 0 (omega arith)) in
    let high = near_read (coordinate c.args.bounds.now.high 0) (reachable c.args.bounds.now.high c.requires.high 0 (omega arith)) in
    let risen = rw (low, high) at c.rise.ensures in omega (arith, risen)
