use Rattle.vcm_num.specs.Point.{IsNear}
use Rattle.vcm_num.proofs.PointLemmas.{near_read}
use Rattle.vcm_motion.proofs.Wide.{max_near, raise_fits, raise_is, raised}
use Rattle.vcm_motion.proofs.layout.last_strip.Goals as goal

pub overflow_add-max : goal.overflow_add-max
overflow_add-max c =
    let value = rw (near_read c.args.from c.requires.from, near_read c.args.to c.requires.to) at c.max.ensures.value in
    let near : IsNear c.max.result = rw value (max_near c.args.from c.args.to c.requires.from c.requires.to) in
    raise_fits c.args.tip c.requires.tip c.max.result _ near c.from.ensures

pub strip_of-requires-clause-x : goal.strip_of-requires-clause-x
strip_of-requires-clause-x c =
    let value = rw (near_read c.args.from c.requires.from, near_read c.args.to c.requires.to) at c.max.ensures.value in
    let near : IsNear c.max.result = rw value (max_near c.args.from c.args.to c.requires.from c.requires.to) in
    rw (raise_is c.args.tip c.requires.tip c.max.result _ near c.from.ensures) (raised c.args.tip c.requires.tip c.max.result near)

pub returns : goal.returns
returns c =
    let value = rw (near_read c.args.from c.requires.from, near_read c.args.to c.requires.to) at c.max.ensures.value in
    let near : IsNear c.max.result = rw value (max_near c.args.from c.args.to c.requires.from c.requires.to) in
    rw (near_read c.args.low c.requires.low, raise_is c.args.tip c.requires.tip c.max.result _ near c.from.ensures, value) at c.strip_of.ensures
