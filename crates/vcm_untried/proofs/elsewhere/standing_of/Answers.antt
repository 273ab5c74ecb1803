use Rattle.std.proofs.Common.{◌≡◌, subst}
use Rattle.vcm_steps.specs.Passages.{passages}
use Rattle.vcm_untried.specs.Elsewhere.{at_start, standing_behind}
use Rattle.vcm_untried.proofs.Ended.{whole_stopped}
use Rattle.vcm_untried.proofs.Stood.{all_stood}
use Rattle.vcm_untried.proofs.elsewhere.standing_of.Goals as goal

pub returns-clause-standing : goal.returns-clause-standing
returns-clause-standing g c =
    let part = g.P.Part.part c.args.part.now in
    let code = c.args.loaded.now in
    let ran = c.in-Ok-follow_run.ran in
    let whole = whole_stopped part code c.args.steps c.in-Ok.machine c.follow_run.new.machine ran c.in-Ok.ensures c.in-Ok-follow_run.ensures.run c.in-Stopped.is in
    let kept : c.follow_run.new.to ≡ standing_behind at_start (passages part code ran.done) =
    subst (λ m. c.follow_run.new.to ≡ standing_behind at_start (passages m.part code ran.done)) c.in-Ok.ensures c.in-Ok-follow_run.ensures.has in
    all_stood part code c.args.steps ran.done c.follow_run.new.to whole kept
