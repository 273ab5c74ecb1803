use Rattle.vcm_motion.proofs.Inside.{reachable}
use Rattle.vcm_turning.proofs.Coordinates.{sum_fits, turned_fits, turned_is}
use Rattle.vcm_turning.proofs.choosing.turned_coordinate.Goals as goal

pub overflow_add-result : goal.overflow_add-result
overflow_add-result c =
    sum_fits _ _ _ (reachable c.args.at c.requires.at c.args.axis c.requires.axis) (reachable c.args.old c.requires.old c.args.axis c.requires.axis)
    (reachable c.args.new c.requires.new c.args.axis c.requires.axis)

pub overflow_sub-result : goal.overflow_sub-result
overflow_sub-result c =
    turned_fits _ _ _ (reachable c.args.at c.requires.at c.args.axis c.requires.axis) (reachable c.args.old c.requires.old c.args.axis c.requires.axis)
    (reachable c.args.new c.requires.new c.args.axis c.requires.axis)

pub returns : goal.returns
returns c =
    turned_is _ _ _ (reachable c.args.at c.requires.at c.args.axis c.requires.axis) (reachable c.args.old c.requires.old c.args.axis c.requires.axis)
    (reachable c.args.new c.requires.new c.args.axis c.requires.axis)
