use Rattle.std.proofs.Common.{arith, rules, sym, ◌∙◌}
use Rattle.vcm_num.proofs.PointLemmas.{near_again, near_read}
use Rattle.vcm_spec.specs.FirstContact.{fraction}
use Rattle.vcm_spec.proofs.Tips.{block_in_order}
use Rattle.vcm_motion.proofs.Inside.{reachable, low_reachable, high_reachable}
use Rattle.vcm_carried.specs.Carried.{spread}
use Rattle.vcm_carried.proofs.Boxes.{box_in_order, spread_low, spread_high, less_by as ap2}
use Rattle.vcm_carried.proofs.Parts.{next_part, no_part, entered_at, never_met}
use Rattle.vcm_carried.proofs.Sides.{left_read, right_read, sides_again}
use Rattle.vcm_carried.proofs.crossing.crossing.Goals as goal

pub between-requires-clause-low : goal.between-requires-clause-low
between-requires-clause-low c = near_again _ (low_reachable c.args.block.now c.requires.block c.loop-axis.axis c.loop-axis-test.true)

pub between-requires-clause-high : goal.between-requires-clause-high
between-requires-clause-high c = near_again _ (high_reachable c.args.block.now c.requires.block c.loop-axis.axis c.loop-axis-test.true)

pub between-requires-clause-sides : goal.between-requires-clause-sides
between-requires-clause-sides c = sides_again _ _ (c.requires.carried c.loop-axis.axis c.loop-axis-test.true)

pub between-requires-clause-from : goal.between-requires-clause-from
between-requires-clause-from c = near_again _ (reachable c.args.way.now.from c.args.way.now.near_from c.loop-axis.axis c.loop-axis-test.true)

pub between-requires-clause-to : goal.between-requires-clause-to
between-requires-clause-to c = near_again _ (reachable c.args.way.now.to c.args.way.now.near_to c.loop-axis.axis c.loop-axis-test.true)

pub returns-in_err-part-clause-missed : goal.returns-in_err-part-clause-missed
returns-in_err-part-clause-missed c =
    let w = c.args.way.now in
    rw c.from_residual.ensures (no_part (fraction w.gone.num w.gone.den) c.args.carried.now c.args.block.now w.from w.to c.loop-axis.axis _ _ _ _ (record {
      axis = c.loop-axis-test.true;
      low_is = ap2 (near_read _ (low_reachable c.args.block.now c.requires.block c.loop-axis.axis c.loop-axis-test.true))
          (right_read _ _ (c.requires.carried c.loop-axis.axis c.loop-axis-test.true))
          ∙ sym (spread_low c.args.carried.now c.args.block.now c.loop-axis.axis c.loop-axis-test.true);
      high_is = ap2 (near_read _ (high_reachable c.args.block.now c.requires.block c.loop-axis.axis c.loop-axis-test.true))
          (left_read _ _ (c.requires.carried c.loop-axis.axis c.loop-axis-test.true))
          ∙ sym (spread_high c.args.carried.now c.args.block.now c.loop-axis.axis c.loop-axis-test.true);
      from_is = near_read _ (reachable c.args.way.now.from c.args.way.now.near_from c.loop-axis.axis c.loop-axis-test.true);
      to_is = near_read _ (reachable c.args.way.now.to c.args.way.now.near_to c.loop-axis.axis c.loop-axis-test.true);
    }) c.in_err-part.ensures)

pub loop-axis-preserved : goal.loop-axis-preserved
loop-axis-preserved c =
    let w = c.args.way.now in
    next_part (fraction w.gone.num w.gone.den) (spread c.args.carried.now c.args.block.now) w.from w.to c.loop-axis.axis _ _ _ _ (record {
      axis = c.loop-axis-test.true;
      low_is = ap2 (near_read _ (low_reachable c.args.block.now c.requires.block c.loop-axis.axis c.loop-axis-test.true))
          (right_read _ _ (c.requires.carried c.loop-axis.axis c.loop-axis-test.true))
          ∙ sym (spread_low c.args.carried.now c.args.block.now c.loop-axis.axis c.loop-axis-test.true);
      high_is = ap2 (near_read _ (high_reachable c.args.block.now c.requires.block c.loop-axis.axis c.loop-axis-test.true))
          (left_read _ _ (c.requires.carried c.loop-axis.axis c.loop-axis-test.true))
          ∙ sym (spread_high c.args.carried.now c.args.block.now c.loop-axis.axis c.loop-axis-test.true);
      from_is = near_read _ (reachable c.args.way.now.from c.args.way.now.near_from c.loop-axis.axis c.loop-axis-test.true);
      to_is = near_read _ (reachable c.args.way.now.to c.args.way.now.near_to c.loop-axis.axis c.loop-axis-test.true);
    })
    c.loop-axis.stretch c.in_ok-part.part c.common-stretch.result c.loop-axis.invariant c.in_ok-part.ensures c.common-stretch.ensures

pub returns-then-is_before-clause-missed : goal.returns-then-is_before-clause-missed
returns-then-is_before-clause-missed c =
    let w = c.args.way.now in
    never_met (fraction w.gone.num w.gone.den) c.args.carried.now c.args.block.now w.from w.to _ c.loop-axis.stretch (omega arith) c.loop-axis.invariant (search rules)

pub returns-else-is_before-clause-met : goal.returns-else-is_before-clause-met
returns-else-is_before-clause-met c =
    let w = c.args.way.now in
    entered_at (fraction w.gone.num w.gone.den) c.args.carried.now c.args.block.now w.from w.to (box_in_order _ _ c.requires.carried)
    (block_in_order _ c.requires.block) _ c.loop-axis.stretch (omega arith)
    c.loop-axis.invariant (grind arith)
