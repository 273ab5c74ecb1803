use Rattle.vcm_num.specs.Point.{IsNear}
use Rattle.vcm_num.proofs.PointLemmas.{near_read}
use Rattle.vcm_motion.proofs.Wide.{min_near, lower_fits, lower_is, lowered}
use Rattle.vcm_motion.proofs.layout.first_strip.Goals as goal

pub overflow_sub-min : goal.overflow_sub-min
overflow_sub-min c =
    let value = rw (near_read c.args.from c.requires.from, near_read c.args.to c.requires.to) at c.min.ensures.value in
    let near : IsNear c.min.result = rw value (min_near c.args.from c.args.to c.requires.from c.requires.to) in
    lower_fits c.args.tip c.requires.tip c.min.result _ near c.from.ensures

pub strip_of-requires-clause-x : goal.strip_of-requires-clause-x
strip_of-requires-clause-x c =
    let value = rw (near_read c.args.from c.requires.from, near_read c.args.to c.requires.to) at c.min.ensures.value in
    let near : IsNear c.min.result = rw value (min_near c.args.from c.args.to c.requires.from c.requires.to) in
    rw (lower_is c.args.tip c.requires.tip c.min.result _ near c.from.ensures) (lowered c.args.tip c.requires.tip c.min.result near)

pub returns : goal.returns
returns c =
    let value = rw (near_read c.args.from c.requires.from, near_read c.args.to c.requires.to) at c.min.ensures.value in
    let near : IsNear c.min.result = rw value (min_near c.args.from c.args.to c.requires.from c.requires.to) in
    rw (near_read c.args.low c.requires.low, lower_is c.args.tip c.requires.tip c.min.result _ near c.from.ensures, value) at c.strip_of.ensures
