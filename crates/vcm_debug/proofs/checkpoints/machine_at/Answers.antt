use Rattle.vcm_debug.proofs.Sessions.{counted_to, stopped_by}
use Rattle.vcm_debug.proofs.checkpoints.machine_at.Goals as goal

pub returns-in-Count : goal.returns-in-Count
returns-in-Count g c =
    counted_to (g.P.Part.part c.args.part.now) c.args.loaded.now c.in_ok-nearest.nearest.machine c.run.new.self c.in_ok-nearest.nearest.count c.args.count c.run.result
    c.in_ok-nearest.ensures.held c.in_ok-nearest.ensures.within c.run.ensures c.in-Count.is

pub returns-in-Stopped : goal.returns-in-Stopped
returns-in-Stopped g c =
    stopped_by (g.P.Part.part c.args.part.now) c.args.loaded.now c.in_ok-nearest.nearest.machine c.run.new.self c.in_ok-nearest.nearest.count c.args.count c.run.result
    c.in_ok-nearest.ensures.held c.in_ok-nearest.ensures.within c.run.ensures c.in-Stopped.is
