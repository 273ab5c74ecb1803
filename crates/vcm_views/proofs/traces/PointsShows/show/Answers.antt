use Rattle.std.proofs.KnownBytes.{Keeps-refl}
use Rattle.vcm_views.proofs.TraceViews.{points_viewed, points_cut_short}
use Rattle.vcm_views.proofs.traces.PointsShows.show.Goals as goal

pub returns-in_default-source_in-clause-fault : goal.returns-in_default-source_in-clause-fault
returns-in_default-source_in-clause-fault g c = Keeps-refl _

pub returns-in-Ok-write_rows-clause-shown : goal.returns-in-Ok-write_rows-clause-shown
returns-in-Ok-write_rows-clause-shown g c =
    points_viewed c.args.self.now.is_machine _ _ c.in-Ok-source_in.ensures _ _ _ c.in-Ok.ensures.meaning _ _ _ _ _ c.in-Ok-write_rows.stop c.in-Ok-write_rows.ensures.written c.status_of.ensures

pub returns-clause-fault : goal.returns-clause-fault
returns-clause-fault g c =
    rw c.cut_short.ensures (points_cut_short c.args.self.now.is_machine _ _ c.in-Ok-source_in.ensures _ _ _ c.in-Ok.ensures.meaning _ _ _ _ c.in-Err.fault c.in-Err.ensures.fault)
