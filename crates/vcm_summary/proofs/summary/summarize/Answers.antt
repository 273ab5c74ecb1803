use Rattle.std.proofs.Common.{ap, ◌∙◌}
use Rattle.vcm_trace.specs.Framed.{no_frames}
use Rattle.vcm_summary.proofs.Ended.{has_found, summed_stopped, summed_counted}
use Rattle.vcm_summary.proofs.summary.summarize.Goals as goal

pub returns-in-Err-follow_run-clause-fault : goal.returns-in-Err-follow_run-clause-fault
returns-in-Err-follow_run-clause-fault g c = absurd c.in-Err-follow_run.ensures.err.broken

pub returns-in-Count-clause-summed : goal.returns-in-Count-clause-summed
returns-in-Count-clause-summed g c =
    let part = g.P.Part.part c.args.part.now in
    let code = c.args.loaded.now in
    let ran = c.in-Ok-follow_run.ran in
    let start = c.in-Ok-opening.ensures.frames ∙ ap (λ m. no_frames m.code.tables) c.in-Ok.ensures in
    summed_counted part code c.args.steps c.in-Ok.machine c.follow_run.new.machine ran c.in-Ok.ensures c.in-Ok-follow_run.ensures.run c.args.from
    c.stop.result c.follow_run.new.to.found (c.stop.ensures ∙ ap (λ w. w.stop) c.world.ensures.state)
    (has_found c.args.from part code c.in-Ok.machine c.in-Ok.ensures ran.done c.in-Ok-opening.progress.frames c.in-Ok-opening.progress.found c.follow_run.new.to.found start c.in-Ok-opening.ensures.found c.in-Ok-follow_run.ensures.has.1) c.in-Count.is

pub returns-clause-summed : goal.returns-clause-summed
returns-clause-summed g c =
    let part = g.P.Part.part c.args.part.now in
    let code = c.args.loaded.now in
    let ran = c.in-Ok-follow_run.ran in
    let start = c.in-Ok-opening.ensures.frames ∙ ap (λ m. no_frames m.code.tables) c.in-Ok.ensures in
    summed_stopped part code c.args.steps c.in-Ok.machine c.follow_run.new.machine ran c.in-Ok.ensures c.in-Ok-follow_run.ensures.run c.args.from
    c.stop-in-Stopped.result c.follow_run.new.to.found (c.stop-in-Stopped.ensures ∙ ap (λ w. w.stop) c.world-in-Stopped.ensures.state)
    (has_found c.args.from part code c.in-Ok.machine c.in-Ok.ensures ran.done c.in-Ok-opening.progress.frames c.in-Ok-opening.progress.found c.follow_run.new.to.found start c.in-Ok-opening.ensures.found c.in-Ok-follow_run.ensures.has.1) c.in-Stopped.is
