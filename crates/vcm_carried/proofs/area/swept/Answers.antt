use Rattle.std.proofs.Common.{arith}
use Rattle.vcm_spec.proofs.Entries.{below_three}
use Rattle.vcm_motion.proofs.Inside.{reachable}
use Rattle.vcm_carried.proofs.Sides.{low_fits, high_fits, span_of}
use Rattle.vcm_carried.proofs.area.swept.Goals as goal

pub overflow_add-result : goal.overflow_add-result
overflow_add-result c = low_fits _ _ _ _ (reachable c.args.way.now.from c.args.way.now.near_from 0 (omega arith))
    (reachable c.args.way.now.to c.args.way.now.near_to 0 (omega arith)) (c.requires 0 (omega arith)) _ c.min.ensures.value

pub overflow_add-result-2 : goal.overflow_add-result-2
overflow_add-result-2 c = low_fits _ _ _ _ (reachable c.args.way.now.from c.args.way.now.near_from 1 (omega arith))
    (reachable c.args.way.now.to c.args.way.now.near_to 1 (omega arith)) (c.requires 1 (omega arith)) _ c.min-2.ensures.value

pub overflow_add-result-3 : goal.overflow_add-result-3
overflow_add-result-3 c = low_fits _ _ _ _ (reachable c.args.way.now.from c.args.way.now.near_from 2 (omega arith))
    (reachable c.args.way.now.to c.args.way.now.near_to 2 (omega arith)) (c.requires 2 (omega arith)) _ c.min-3.ensures.value

pub overflow_add-result-4 : goal.overflow_add-result-4
overflow_add-result-4 c = high_fits _ _ _ _ (reachable c.args.way.now.from c.args.way.now.near_from 0 (omega arith))
    (reachable c.args.way.now.to c.args.way.now.near_to 0 (omega arith)) (c.requires 0 (omega arith)) _ c.max.ensures.value

pub overflow_add-result-5 : goal.overflow_add-result-5
overflow_add-result-5 c = high_fits _ _ _ _ (reachable c.args.way.now.from c.args.way.now.near_from 1 (omega arith))
    (reachable c.args.way.now.to c.args.way.now.near_to 1 (omega arith)) (c.requires 1 (omega arith)) _ c.max-2.ensures.value

pub overflow_add-result-6 : goal.overflow_add-result-6
overflow_add-result-6 c = high_fits _ _ _ _ (reachable c.args.way.now.from c.args.way.now.near_from 2 (omega arith))
    (reachable c.args.way.now.to c.args.way.now.near_to 2 (omega arith)) (c.requires 2 (omega arith)) _ c.max-3.ensures.value

pub returns : goal.returns
returns c =
    below_three _
    (span_of _ _ _ _ (reachable c.args.way.now.from c.args.way.now.near_from 0 (omega arith))
    (reachable c.args.way.now.to c.args.way.now.near_to 0 (omega arith)) (c.requires 0 (omega arith)) _ _ c.min.ensures.value c.max.ensures.value)
    (span_of _ _ _ _ (reachable c.args.way.now.from c.args.way.now.near_from 1 (omega arith))
    (reachable c.args.way.now.to c.args.way.now.near_to 1 (omega arith)) (c.requires 1 (omega arith)) _ _ c.min-2.ensures.value c.max-2.ensures.value)
    (span_of _ _ _ _ (reachable c.args.way.now.from c.args.way.now.near_from 2 (omega arith))
    (reachable c.args.way.now.to c.args.way.now.near_to 2 (omega arith)) (c.requires 2 (omega arith)) _ _ c.min-3.ensures.value c.max-3.ensures.value)
