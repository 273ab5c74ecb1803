use Rattle.std.proofs.Common.{rules, get_or, pos, w64, FitsSigned, to_z-of_z}
use Rattle.vcm_sheet.specs.Ticks.{tick_said}
use Rattle.vcm_sheet.proofs.Saying.{row_more, all_rows}
use Rattle.vcm_sheet.proofs.frames.put_across.Goals as goal

pub loop-tick-preserved : goal.loop-tick-preserved
loop-tick-preserved c =
    let f : FitsSigned w64 (get_or c.args.ticks.now c.loop-tick.tick-index (pos 0)) = search rules in
    record {
      rows = row_more tick_said c.args.ticks.now c.loop-tick.tick-index (pos 0) _ _ _ c.loop-tick-test.true c.loop-tick.invariant.rows
          (simp to_z-of_z at c.in_ok-put_tick_across.ensures);
    }

pub returns : goal.returns
returns c = all_rows tick_said c.args.ticks.now c.loop-tick.tick-index _ _ c.loop-tick-test.false c.loop-tick.invariant.rows
