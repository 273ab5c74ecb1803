use Rattle.std.proofs.Common.{ap, ◌∙◌}
use Rattle.vcm_code.specs.declared.code.Code.{Code}
use Rattle.vcm_trace.specs.Framed.{no_frames}
use Rattle.vcm_turning.specs.Turning.{Turned}
use Rattle.vcm_meant.specs.Noted.{nothing_noted}
use Rattle.vcm_meant.specs.inner.Kept.{noted_of}
use Rattle.vcm_meant.proofs.Noting.{if_ok_then}
use Rattle.vcm_meant.proofs.Turned.{told_turned}
use Rattle.vcm_meant.proofs.turning.meant_turned.Goals as goal

pub returns : goal.returns
returns g c =
    let m = c.args.machine in
    let code = c.args.loaded.now in
    let run = c.in_ok-ran.ensures.run in
    let ran = c.in_ok-ran.ran in
    let same = ap (λ x. x.code) c.requires.start in
    let tables = c.world.ensures.tables ∙ ap (λ (k : Code). k.tables) same in
    let frames = c.in_ok-progress.ensures.frames ∙ ap no_frames tables in
    let noted = c.in_ok-progress.ensures.noted ∙ ap nothing_noted tables in
    let stop = c.stop.ensures ∙ ap (λ w. w.stop) c.world-in_default.ensures.state ∙ ap (λ (t : Turned). t.state.world.stop) run.reached in
    if_ok_then c.remarks_of.result _ _ (λ v told. record {
      done = ran.done;
      end = ran.end;
      few = run.few;
      each = run.each;
      ended = run.ended;
      ample = c.in_default.not-NoMemory;
      told = told_turned c.args.blocks.now m.part m.probes m.variable code ran.done c.in_ok-progress.progress.frames (noted_of c.in_ok-progress.progress.noted)
          (noted_of c.follow_turns.new.to.noted) c.stop.result v.items c.requires.part frames noted stop c.in_ok-ran.ensures.has.1 told;
    }) c.remarks_of.ensures
