use Rattle.std.proofs.Common.{◌≡◌, sym, ap, ◌∙◌, subst}
use Rattle.vcm_steps.specs.Passages.{passage}
use Rattle.vcm_trace.specs.Framed.{frames_behind, framed}
use Rattle.vcm_turning.specs.Following.{told_step}
use Rattle.vcm_meant.specs.Noted.{noted_after, noted_behind}
use Rattle.vcm_meant.specs.Measuring.{aim_of}
use Rattle.vcm_meant.specs.Turned.{passages_in}
use Rattle.vcm_meant.specs.inner.Kept.{noted_of}
use Rattle.vcm_meant.proofs.Noting.{one_kept, one_noted}
use Rattle.vcm_meant.proofs.Turned.{more_passages}
use Rattle.vcm_meant.proofs.turning.NotingFollowsTurnsProgress.see.Goals as goal

pub returns-clause-ok : goal.returns-clause-ok
returns-clause-ok c = λ w from ss looked has.
    let s = c.args.statement.now in
    let after = c.args.world.now.state in
    let p = passage c.args._count c.args.number s w after c.args.next in
    let home = c.args.self.now.blocks.now.bounds.home in
    let old = c.args.to.now in
    let new = noted_of c.note.new.noted in
    let kept = c.keep_frame.new.frames in
    let ps = passages_in ss in
    let more = more_passages ss (told_step c.args._count c.args.number s w after c.args.next c.args._on c.args._turn) in
    let aim = c.aim_of-aim.ensures ∙ ap (aim_of c.args.before.task) c.frame.ensures ∙ ap (λ t. aim_of t after.frame) looked.task in (
      subst (λ l. kept ≡ frames_behind from.frames l) (sym more)
          (one_kept home (noted_of from.noted) (noted_of old.noted) new from.frames old.frames kept ps p has.0 c.keep_frame.ensures),
      subst (λ l. new ≡ noted_behind home (noted_of from.noted) (framed from.frames l)) (sym more)
          (one_noted home (noted_of from.noted) (noted_of old.noted) new from.frames old.frames kept ps p has.0 has.1
          (c.in_ok-note.ensures ∙ ap (λ a. noted_after (noted_of old.noted) old.frames s.op s.line c.args.number c.args.next after a after.stop) aim)),
    )
