use Rattle.std.specs.Prelude.{None, []}
use Rattle.vcm_views.proofs.RunViews.{values_viewed, values_cut_short, values_halted}
use Rattle.vcm_views.proofs.values.ValuesShows.show.Goals as goal

pub returns-then-is_halted-clause-fault : goal.returns-then-is_halted-clause-fault
returns-then-is_halted-clause-fault g c =
    values_halted [] None [] _ _ c.in-Ok.ensures.meaning _ _ _ _ _ c.in-Ok-new.ensures c.run-ran.ensures (c.is_halted.ensures.halted c.if-is_halted.true) _

pub returns-clause-shown : goal.returns-clause-shown
returns-clause-shown g c =
    values_viewed _ _ _ _ _ c.in-Ok.ensures.meaning _ _ _ _ _ c.in-Ok-new.ensures c.run-ran.ensures _ c.into_world-world.ensures.state c.into_world-world.ensures.tables
    (c.is_halted.ensures.ample c.if-is_halted.false) c.tell.result _ _ c.tell.ensures.shown

pub returns-clause-fault : goal.returns-clause-fault
returns-clause-fault g c =
    values_cut_short _ _ _ _ _ c.in-Ok.ensures.meaning _ _ _ _ _ c.in-Ok-new.ensures c.run-ran.ensures _ c.into_world-world.ensures.state c.into_world-world.ensures.tables
    (c.is_halted.ensures.ample c.if-is_halted.false) c.tell.result _ _ c.tell.ensures.fault
