use Rattle.std.proofs.Common.{arith, refl, subst, sym}
use Rattle.vcm_num.specs.Point.{is_near}
use Rattle.vcm_set_clearance.proofs.Pivots.{fits_on, sum_on, pivot_near}
use Rattle.vcm_set_clearance.proofs.gathering.pivot_at.Goals as goal

pub overflow_add-result : goal.overflow_add-result
overflow_add-result c = rw c.pivot.ensures.pivot (fits_on c.args.at c.args.probe.now c.requires.at c.pivot.ensures.valid.pivot 0 (omega arith))

pub overflow_add-result-2 : goal.overflow_add-result-2
overflow_add-result-2 c = rw c.pivot.ensures.pivot (fits_on c.args.at c.args.probe.now c.requires.at c.pivot.ensures.valid.pivot 1 (omega arith))

pub overflow_add-result-3 : goal.overflow_add-result-3
overflow_add-result-3 c = rw c.pivot.ensures.pivot (fits_on c.args.at c.args.probe.now c.requires.at c.pivot.ensures.valid.pivot 2 (omega arith))

pub returns-clause-is : goal.returns-clause-is
returns-clause-is c =
    let p = c.args.probe.now in
    let hand = c.pivot.ensures.valid.pivot in
    rw (
      c.pivot.ensures.pivot,
      sum_on c.args.at p c.requires.at hand 0 (omega arith),
      sum_on c.args.at p c.requires.at hand 1 (omega arith),
      sum_on c.args.at p c.requires.at hand 2 (omega arith),
    ) refl

pub returns-clause-near : goal.returns-clause-near
returns-clause-near c =
    let p = c.args.probe.now in
    let hand = c.pivot.ensures.valid.pivot in
    rw (
      c.pivot.ensures.pivot,
      sum_on c.args.at p c.requires.at hand 0 (omega arith),
      sum_on c.args.at p c.requires.at hand 1 (omega arith),
      sum_on c.args.at p c.requires.at hand 2 (omega arith),
    ) (pivot_near c.args.at p c.requires.at hand c.requires.hangs)
