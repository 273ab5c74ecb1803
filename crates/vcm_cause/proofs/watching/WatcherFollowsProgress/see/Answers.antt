use Rattle.std.proofs.Common.{sym, ap, ◌∙◌, subst}
use Rattle.vcm_steps.specs.Passages.{passage}
use Rattle.vcm_way.specs.Steps.{TaskEnds}
use Rattle.vcm_way.specs.Tasks.{marks_of}
use Rattle.vcm_way.specs.Ways.{reason}
use Rattle.vcm_way.proofs.Stepped.{step_ends, marks_are}
use Rattle.vcm_cause.specs.Behind.{rounds_behind, framed_behind}
use Rattle.vcm_cause.specs.Watched.{seen}
use Rattle.vcm_cause.proofs.Stepping.{one_seen}
use Rattle.vcm_cause.proofs.watching.WatcherFollowsProgress.see.Goals as goal

pub marks_of_step-to-requires-clause-ends : goal.marks_of_step-to-requires-clause-ends
marks_of_step-to-requires-clause-ends g c =
    let part = c.args.self.now.blocks.now in
    let b = c.args.before in
    subst (TaskEnds part b.position b.settings b.task) (sym (c.reason.ensures ∙ ap reason c.stop-stop.ensures))
    (step_ends part _ b c.args.statement.now c.args.world.now.state c.requires c.requires.is_next.fit.1)

pub returns-clause-ok : goal.returns-clause-ok
returns-clause-ok g c = λ w from ps looked has.
    let part = c.args.self.now.blocks.now in
    let b = c.args.before in
    let s = c.args.statement.now in
    let after = c.args.world.now.state in
    let marks =
    c.marks_of_step-to.ensures ∙ ap (marks_of part b.position b.settings b.task) (c.reason.ensures ∙ ap reason c.stop-stop.ensures)
    ∙ marks_are part b s w after looked c.args._count c.args.number c.args.next in
    let rounds = c.count_round.ensures ∙ ap (rounds_behind c.args.to.now.rounds s.op c.args.number c.args.next) c.stop-stop.ensures in
    let framed = c.framed_behind-to.ensures ∙ ap (framed_behind c.args.to.now.framed s.op s.line) c.stop-stop.ensures in
    one_seen part (seen from) ps (passage c.args._count c.args.number s w after c.args.next) _ _ _ (seen c.args.to.now) has marks rounds framed
