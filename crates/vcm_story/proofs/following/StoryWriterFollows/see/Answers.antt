use Rattle.std.proofs.Common.{sym, ap, ◌∙◌, subst}
use Rattle.std.specs.Io.KnownBytes.{Appends}
use Rattle.vcm_num.specs.Written.{AppendsFront}
use Rattle.vcm_steps.specs.Passages.{passage}
use Rattle.vcm_way.specs.Steps.{TaskEnds}
use Rattle.vcm_way.specs.Tasks.{marks_of}
use Rattle.vcm_way.specs.Ways.{reason}
use Rattle.vcm_way.proofs.Stepped.{step_ends}
use Rattle.vcm_story.specs.Stories.{passage_rows}
use Rattle.vcm_story.proofs.StoryLemmas.{one_step, part_of_step, seen}
use Rattle.vcm_story.proofs.following.StoryWriterFollows.see.Goals as goal

pub marks_of_step-marks-requires-clause-ends : goal.marks_of_step-marks-requires-clause-ends
marks_of_step-marks-requires-clause-ends g c =
    let part = c.args.self.now.blocks.now in
    let b = c.args.before in
    subst (TaskEnds part b.position b.settings b.task) (sym (c.reason.ensures ∙ ap reason c.stop.ensures))
    (step_ends part _ b c.args.statement.now c.args.world.now.state c.requires c.requires.is_next.fit.1)

pub returns-in-Ok-clause-ok : goal.returns-in-Ok-clause-ok
returns-in-Ok-clause-ok g c = λ w from ps looked h.
    let part = c.args.self.now.blocks.now in
    let b = c.args.before in
    let tables = c.args.world.now.tables in
    let p = passage c.args.count c.args.number c.args.statement.now w c.args.world.now.state c.args.next in
    let e = c.as_slice.ensures ∙ c.marks_of_step-marks.ensures ∙ ap (marks_of part b.position b.settings b.task) (c.reason.ensures ∙ ap reason c.stop.ensures) in
    one_step (passage_rows part tables c.args.self.now.from) _ _ _ ps p h
    (subst (λ l. Appends (g.W.Write.contents c.args.to.now) (g.W.Write.contents c.write_passage.new.writer) l)
    (seen part b c.args.statement.now w c.args.world.now.state looked c.args.count c.args.number c.args.next c.args.self.now.from tables
    c.as_slice.result.now e) (c.in-Ok.ensures w))

pub returns-in-Err-clause-err : goal.returns-in-Err-clause-err
returns-in-Err-clause-err g c = λ w from ps looked h.
    let part = c.args.self.now.blocks.now in
    let b = c.args.before in
    let tables = c.args.world.now.tables in
    let p = passage c.args.count c.args.number c.args.statement.now w c.args.world.now.state c.args.next in
    let e = c.as_slice.ensures ∙ c.marks_of_step-marks.ensures ∙ ap (marks_of part b.position b.settings b.task) (c.reason.ensures ∙ ap reason c.stop.ensures) in
    part_of_step (passage_rows part tables c.args.self.now.from) _ _ _ ps p h
    (subst (λ l. AppendsFront (g.W.Write.contents c.args.to.now) (g.W.Write.contents c.write_passage.new.writer) l)
    (seen part b c.args.statement.now w c.args.world.now.state looked c.args.count c.args.number c.args.next c.args.self.now.from tables
    c.as_slice.result.now e) (c.in-Err.ensures w))
