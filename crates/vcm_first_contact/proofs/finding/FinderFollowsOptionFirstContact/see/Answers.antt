use Rattle.std.proofs.Common.{sym, ap, ◌∙◌, subst}
use Rattle.std.specs.List.{AllByRecursion}
use Rattle.vcm_steps.specs.Passages.{passage}
use Rattle.vcm_way.specs.Gone.{ways_in, placed_ways}
use Rattle.vcm_way.specs.Seen.{IsNearWay}
use Rattle.vcm_way.specs.Steps.{TaskEnds}
use Rattle.vcm_way.specs.Tasks.{marks_of}
use Rattle.vcm_way.specs.Ways.{reason}
use Rattle.vcm_way.proofs.Near.{ways_near}
use Rattle.vcm_way.proofs.Stepped.{step_ends, marks_are}
use Rattle.vcm_first_contact.specs.First.{first_in}
use Rattle.vcm_first_contact.proofs.Found.{kept, taken, see_more}
use Rattle.vcm_first_contact.proofs.finding.FinderFollowsOptionFirstContact.see.Goals as goal

pub marks_of_step-marks-requires-clause-ends : goal.marks_of_step-marks-requires-clause-ends
marks_of_step-marks-requires-clause-ends g c =
    let part = c.args.self.now.blocks.now in
    let b = c.args.before in
    subst (TaskEnds part b.position b.settings b.task) (sym (c.reason.ensures ∙ ap reason c.stop.ensures))
    (step_ends part _ b c.args.statement.now c.args.world.now.state c.requires c.requires.is_next.fit.1)

pub first_among-requires-clause-near : goal.first_among-requires-clause-near
first_among-requires-clause-near g c =
    let part = c.args.self.now.blocks.now in
    let b = c.args.before in
    let after = c.args.world.now.state in
    let stop = c.reason.ensures ∙ ap reason c.stop.ensures in
    subst (λ ms. AllByRecursion IsNearWay (ways_in part ms)) (sym (c.as_slice-2.ensures ∙ c.marks_of_step-marks.ensures ∙ ap (marks_of part b.position b.settings b.task) stop))
    (ways_near part c.bounds-bounds.ensures.valid b.position c.requires.known_before.near b.settings b.task (reason after.stop)
    (step_ends part _ b c.args.statement.now after c.requires c.requires.is_next.fit.1))

pub returns-clause-ok : goal.returns-clause-ok
returns-clause-ok g c = λ w from ps looked has.
    let part = c.args.self.now.blocks.now in
    let boxes = c.args.self.now.boxes.now in
    let b = c.args.before in
    let s = c.args.statement.now in
    let after = c.args.world.now.state in
    let p = passage c.args.count c.args.number s w after c.args._next in
    let marks =
    c.as_slice-2.ensures ∙ c.marks_of_step-marks.ensures ∙ ap (marks_of part b.position b.settings b.task) (c.reason.ensures ∙ ap reason c.stop.ensures)
    ∙ marks_are part b s w after looked c.args.count c.args.number c.args._next in
    let found = (rw (c.as_slice.ensures.boxes, marks) at c.first_among.ensures) in
    see_more part boxes from c.args.to.now ps p c.first_among.result has
    (found ∙ taken c.args.to.now (sym c.is_some.ensures ∙ c.if-is_some.false) (first_in part.blocks boxes (placed_ways part p)))

pub returns-then-is_some-clause-ok : goal.returns-then-is_some-clause-ok
returns-then-is_some-clause-ok g c = λ w from ps looked has.
    let part = c.args.self.now.blocks.now in
    let boxes = c.args.self.now.boxes.now in
    let p = passage c.args.count c.args.number c.args.statement.now w c.args.world.now.state c.args._next in
    see_more part boxes from c.args.to.now ps p c.args.to.now has (kept c.args.to.now (sym c.is_some.ensures ∙ c.if-is_some.true) (first_in part.blocks boxes (placed_ways part p)))
