use Rattle.std.proofs.Common.{ap, ◌∙◌}
use Rattle.vcm_trace.specs.Framed.{no_frames}
use Rattle.vcm_views.proofs.Read.{read_stopped, read_counted}
use Rattle.vcm_views.proofs.readings.readings_of.Goals as goal

pub returns-in-Count : goal.returns-in-Count
returns-in-Count g c =
    read_counted (g.P.Part.part c.args.part.now) c.args.loaded.now c.args.steps c.in_ok-machine.machine c.follow_run.new.machine c.in_ok-ran.ran
    c.in_ok-machine.ensures c.in_ok-ran.ensures.run c.args.from c.in_ok-progress.progress.readings.items c.follow_run.new.to.readings.items c.in_ok-progress.progress.frames
    c.in_ok-progress.ensures.readings (c.in_ok-progress.ensures.frames ∙ ap (λ m. no_frames m.code.tables) c.in_ok-machine.ensures) c.in_ok-ran.ensures.has.1 c.in-Count.is

pub returns : goal.returns
returns g c =
    read_stopped (g.P.Part.part c.args.part.now) c.args.loaded.now c.args.steps c.in_ok-machine.machine c.follow_run.new.machine c.in_ok-ran.ran
    c.in_ok-machine.ensures c.in_ok-ran.ensures.run c.args.from c.in_ok-progress.progress.readings.items c.follow_run.new.to.readings.items c.in_ok-progress.progress.frames
    c.in_ok-progress.ensures.readings (c.in_ok-progress.ensures.frames ∙ ap (λ m. no_frames m.code.tables) c.in_ok-machine.ensures) c.in_ok-ran.ensures.has.1 c.in-Stopped.is
