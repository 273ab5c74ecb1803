use Rattle.std.proofs.Common.{arith, ◌-ℤ◌}
use Rattle.std.proofs.lemmas.Int.{ints}
use Rattle.vcm_carried.proofs.Rising.{stretch_rising, stretch_falling}
use Rattle.vcm_carried.proofs.axis.between.Goals as goal

pub returns-then-from-to : goal.returns-then-from-to
returns-then-from-to c =
    stretch_rising c.reach.result (c.args.low -ℤ c.args.right) (c.args.high -ℤ c.args.left) c.args.from c.args.to _ _ _
    (omega (arith, ints)) (omega (arith, ints)) (omega (arith, ints)) c.reach.ensures

pub returns-else-from-to : goal.returns-else-from-to
returns-else-from-to c =
    stretch_falling c.reach-else-from-to.result (c.args.low -ℤ c.args.right) (c.args.high -ℤ c.args.left) c.args.from c.args.to _ _ _
    (omega (arith, ints)) (omega (arith, ints)) (omega (arith, ints)) c.reach-else-from-to.ensures
