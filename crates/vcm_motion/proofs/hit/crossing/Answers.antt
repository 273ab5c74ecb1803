use Rattle.std.proofs.Common.{arith, rules, pos, ◌-ℤ◌, ◌+ℤ◌, Some, None, sym, ◌∙◌, ap}
use Rattle.vcm_num.specs.Point.{coordinate}
use Rattle.vcm_num.proofs.PointLemmas.{near_again, near_read}
use Rattle.vcm_spec.specs.Workpiece.{grown}
use Rattle.vcm_motion.proofs.Inside.{reachable, low_reachable, high_reachable}
use Rattle.vcm_motion.proofs.Wide.{grown_low, grown_high}
use Rattle.vcm_motion.proofs.TipEntries.{tip_met, tip_missed}
use Rattle.vcm_motion.proofs.Axes.{next_part, no_part, entered_at, never_met}
use Rattle.vcm_motion.proofs.hit.crossing.Goals as goal

pub between-requires-clause-low : goal.between-requires-clause-low
between-requires-clause-low c = near_again _ (low_reachable c.args.block.now c.requires.block c.loop-axis.axis c.loop-axis-test.true)

pub between-requires-clause-high : goal.between-requires-clause-high
between-requires-clause-high c = near_again _ (high_reachable c.args.block.now c.requires.block c.loop-axis.axis c.loop-axis-test.true)

pub between-requires-clause-from : goal.between-requires-clause-from
between-requires-clause-from c = near_again _ (reachable c.args.from c.requires.from c.loop-axis.axis c.loop-axis-test.true)

pub between-requires-clause-to : goal.between-requires-clause-to
between-requires-clause-to c = near_again _ (reachable c.args.to c.requires.to c.loop-axis.axis c.loop-axis-test.true)

pub returns-in_err-part-clause-missed : goal.returns-in_err-part-clause-missed
returns-in_err-part-clause-missed c =
    rw c.from_residual.ensures (tip_missed c.args.tip (coordinate c.args.from) (coordinate c.args.to) c.args.block.now c.requires.block None
    (no_part (grown c.args.tip c.args.block.now) c.args.from c.args.to c.loop-axis.axis _ _ _ _ (record {
      axis = c.loop-axis-test.true;
      low_is = ap (λ z. z -ℤ pos c.args.tip) (near_read _ (low_reachable c.args.block.now c.requires.block c.loop-axis.axis c.loop-axis-test.true))
          ∙ sym (grown_low c.args.tip c.args.block.now c.loop-axis.axis c.loop-axis-test.true);
      high_is = ap (λ z. z +ℤ pos c.args.tip) (near_read _ (high_reachable c.args.block.now c.requires.block c.loop-axis.axis c.loop-axis-test.true))
          ∙ sym (grown_high c.args.tip c.args.block.now c.loop-axis.axis c.loop-axis-test.true);
      from_is = near_read _ (reachable c.args.from c.requires.from c.loop-axis.axis c.loop-axis-test.true);
      to_is = near_read _ (reachable c.args.to c.requires.to c.loop-axis.axis c.loop-axis-test.true);
    }) c.in_err-part.ensures))

pub loop-axis-preserved : goal.loop-axis-preserved
loop-axis-preserved c =
    next_part (grown c.args.tip c.args.block.now) c.args.from c.args.to c.loop-axis.axis _ _ _ _ (record {
      axis = c.loop-axis-test.true;
      low_is = ap (λ z. z -ℤ pos c.args.tip) (near_read _ (low_reachable c.args.block.now c.requires.block c.loop-axis.axis c.loop-axis-test.true))
          ∙ sym (grown_low c.args.tip c.args.block.now c.loop-axis.axis c.loop-axis-test.true);
      high_is = ap (λ z. z +ℤ pos c.args.tip) (near_read _ (high_reachable c.args.block.now c.requires.block c.loop-axis.axis c.loop-axis-test.true))
          ∙ sym (grown_high c.args.tip c.args.block.now c.loop-axis.axis c.loop-axis-test.true);
      from_is = near_read _ (reachable c.args.from c.requires.from c.loop-axis.axis c.loop-axis-test.true);
      to_is = near_read _ (reachable c.args.to c.requires.to c.loop-axis.axis c.loop-axis-test.true);
    }) c.loop-axis.stretch c.in_ok-part.part c.common-stretch.result c.loop-axis.invariant c.in_ok-part.ensures c.common-stretch.ensures.common
    (c.common-stretch.ensures.leave c.loop-axis.invariant.ends)

pub returns-then-is_before-clause-missed : goal.returns-then-is_before-clause-missed
returns-then-is_before-clause-missed c =
    tip_missed c.args.tip (coordinate c.args.from) (coordinate c.args.to) c.args.block.now c.requires.block None
    (never_met (grown c.args.tip c.args.block.now) c.args.from c.args.to _ c.loop-axis.stretch (omega arith) c.loop-axis.invariant (search rules))

pub returns-else-is_before-clause-met : goal.returns-else-is_before-clause-met
returns-else-is_before-clause-met c =
    tip_met c.args.tip (coordinate c.args.from) (coordinate c.args.to) c.args.block.now c.requires.block (Some c.loop-axis.stretch.enter)
    (entered_at (grown c.args.tip c.args.block.now) c.args.from c.args.to _ c.loop-axis.stretch (omega arith) c.loop-axis.invariant (grind arith))

pub returns-else-is_before-clause-missed : goal.returns-else-is_before-clause-missed
returns-else-is_before-clause-missed c = search rules
