use Rattle.vcm_num.specs.Point.{coordinate}
use Rattle.vcm_carried.proofs.Counting.{tip_met, tip_missed}
use Rattle.vcm_carried.proofs.tip.tip_entry.Goals as goal

pub returns-clause-met : goal.returns-clause-met
returns-clause-met c =
    tip_met c.args.tip (coordinate c.args.from) (coordinate c.args.to) c.args.block.now c.whole-gone.result.num c.whole-gone.result.den c.whole-gone.ensures.num
    c.whole-gone.ensures.den c.crossing.result
    (rw c.cube.ensures at c.crossing.ensures.met)

pub returns-clause-missed : goal.returns-clause-missed
returns-clause-missed c =
    tip_missed c.args.tip (coordinate c.args.from) (coordinate c.args.to) c.args.block.now c.whole-gone.result.num c.whole-gone.result.den
    c.whole-gone.ensures.num c.whole-gone.ensures.den c.crossing.result
    (rw c.cube.ensures at c.crossing.ensures.missed)
