use Rattle.std.proofs.Common.{◌≡◌, sym, ap, ◌∙◌, subst}
use Rattle.vcm_machine.specs.Running.{Running, started}
use Rattle.vcm_trace.specs.Framed.{no_frames}
use Rattle.vcm_meant.specs.Meant.{meant}
use Rattle.vcm_meant.specs.Noted.{nothing_noted}
use Rattle.vcm_meant.specs.inner.Kept.{noted_of}
use Rattle.vcm_meant.proofs.Noting.{if_ok_then, meant_counted, meant_stopped}
use Rattle.vcm_meant.proofs.following.meant.Goals as goal

pub returns-in-Count : goal.returns-in-Count
returns-in-Count g c =
    let code = c.args.loaded.now in
    let tables = c.world.ensures.tables ∙ ap (λ (m : Running). m.code.tables) c.in_ok-machine.ensures in
    let frames = c.in_ok-progress.ensures.frames ∙ ap no_frames tables in
    let noted = c.in_ok-progress.ensures.noted ∙ ap nothing_noted tables in
    if_ok_then c.remarks_of.result _ _ (λ v told. subst (λ p. v.items ≡ meant p code c.args.steps) (sym c.requires)
    (meant_counted c.args.blocks.now code c.args.steps c.in_ok-machine.machine c.follow_run.new.machine c.in_ok-ran.ran
    (c.in_ok-machine.ensures ∙ ap (λ p. started p code) c.requires) c.in_ok-ran.ensures.run c.in_ok-progress.progress.frames (noted_of c.in_ok-progress.progress.noted)
    (noted_of c.follow_run.new.to.noted) c.stop.result v.items frames noted (c.stop.ensures ∙ ap (λ s. s.stop) c.world-in-Count.ensures.state) c.in_ok-ran.ensures.has.1 told c.in-Count.is))
    c.remarks_of.ensures

pub returns : goal.returns
returns g c =
    let code = c.args.loaded.now in
    let tables = c.world.ensures.tables ∙ ap (λ (m : Running). m.code.tables) c.in_ok-machine.ensures in
    let frames = c.in_ok-progress.ensures.frames ∙ ap no_frames tables in
    let noted = c.in_ok-progress.ensures.noted ∙ ap nothing_noted tables in
    if_ok_then c.remarks_of-in-Stopped.result _ _ (λ v told. subst (λ p. v.items ≡ meant p code c.args.steps) (sym c.requires)
    (meant_stopped c.args.blocks.now code c.args.steps c.in_ok-machine.machine c.follow_run.new.machine c.in_ok-ran.ran
    (c.in_ok-machine.ensures ∙ ap (λ p. started p code) c.requires) c.in_ok-ran.ensures.run c.in_ok-progress.progress.frames (noted_of c.in_ok-progress.progress.noted)
    (noted_of c.follow_run.new.to.noted) c.stop-in-Stopped.result v.items frames noted (c.stop-in-Stopped.ensures ∙ ap (λ s. s.stop) c.world-in-Stopped.ensures.state) c.in_ok-ran.ensures.has.1 told c.in-Stopped.is))
    c.remarks_of-in-Stopped.ensures
