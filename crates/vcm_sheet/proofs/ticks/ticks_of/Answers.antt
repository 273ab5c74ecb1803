use Rattle.std.proofs.Common.{rules, w64, FitsSigned, to_z-of_z}
use Rattle.vcm_sheet.proofs.Ticking.{ticks_more, one_more_tick, all_ticks}
use Rattle.vcm_sheet.proofs.ticks.ticks_of.Goals as goal

pub loop-turn-preserved : goal.loop-turn-preserved
loop-turn-preserved c =
    let f : FitsSigned w64 c.multiple_after.result = search rules in
    record {
      ticks = one_more_tick c.args.ruler c.loop-turn.turn _ _ _ c.loop-turn.invariant.ticks c.multiple_after.ensures (simp to_z-of_z at c.in_ok-push_tick.ensures);
      all = rw c.in_ok-push_tick.ensures (ticks_more c.args.ruler _ _ c.loop-turn.invariant.all);
    }

pub returns-clause-ticks : goal.returns-clause-ticks
returns-clause-ticks c = all_ticks c.args.ruler c.loop-turn.turn _ c.loop-turn.invariant.ticks c.loop-turn.auto.turn-end c.loop-turn-test.false
