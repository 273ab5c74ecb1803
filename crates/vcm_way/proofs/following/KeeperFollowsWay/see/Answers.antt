use Rattle.std.proofs.Common.{sym, ap, ◌∙◌, subst}
use Rattle.vcm_way.specs.Steps.{TaskEnds}
use Rattle.vcm_way.specs.Tasks.{marks_of}
use Rattle.vcm_way.specs.Ways.{reason}
use Rattle.vcm_way.proofs.Stepped.{step_ends, one_step, on_ok_then}
use Rattle.vcm_way.proofs.following.KeeperFollowsWay.see.Goals as goal

pub marks_of_step-marks-requires-clause-ends : goal.marks_of_step-marks-requires-clause-ends
marks_of_step-marks-requires-clause-ends g c =
    let part = c.args.self.now.blocks.now in
    let b = c.args.before in
    subst (TaskEnds part b.position b.settings b.task) (sym (c.reason-stop.ensures ∙ ap reason c.stop.ensures))
    (step_ends part _ b c.args.statement.now c.args.world.now.state c.requires c.requires.is_next.fit.1)

pub returns-clause-ok : goal.returns-clause-ok
returns-clause-ok g c =
    let part = c.args.self.now.blocks.now in
    let b = c.args.before in
    let e = c.as_slice.ensures ∙ c.marks_of_step-marks.ensures ∙ ap (marks_of part b.position b.settings b.task) (c.reason-stop.ensures ∙ ap reason c.stop.ensures) in
    on_ok_then c.add_step.result _ _ (λ step w from ps is h.
    one_step part b c.args.statement.now w c.args.world.now.state is c.args.count c.args.number c.args._next c.as_slice.result.now e from c.args.to.now
    c.add_step.new.self ps step h) c.add_step.ensures
