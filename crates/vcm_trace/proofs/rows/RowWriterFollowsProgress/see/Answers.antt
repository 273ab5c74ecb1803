use Rattle.std.proofs.Common.{ap, sym, subst, ◌∙◌}
use Rattle.std.specs.Io.KnownBytes.{Appends}
use Rattle.vcm_num.specs.Written.{AppendsFront}
use Rattle.vcm_steps.specs.Passages.{passage}
use Rattle.vcm_trace.specs.Framed.{framed_step, frames_with}
use Rattle.vcm_trace.proofs.FramedLemmas.{behind_more}
use Rattle.vcm_trace.proofs.RowLemmas.{one_row, part_of_row}
use Rattle.vcm_trace.proofs.rows.RowWriterFollowsProgress.see.Goals as goal

pub returns-in-Ok-clause-ok : goal.returns-in-Ok-clause-ok
returns-in-Ok-clause-ok g c = λ w from ps u has.
    let p = passage c.args.count c.args.number c.args.statement.now w c.args.world.now.state c.args.next in
    let row = (g.F.WritesRows.Rows c.args.self.now.by.now).row c.args.world.now.tables in
    let old = g.W.Write.contents c.args.to.now.writer.now in
    let new = g.W.Write.contents c.write_row.new.writer in
    let first = g.W.Write.contents from.writer.now in (
      has.0,
      has.1,
      c.keep_frame.ensures ∙ ap (λ fs. frames_with fs p) has.2 ∙ sym (behind_more from.frames.now ps p),
      one_row row from.frames.now first old new ps p has.3 (subst (λ fs. Appends old new (row (framed_step fs p))) has.2 (c.in-Ok.ensures w)),
    )

pub returns-in-Err-clause-err : goal.returns-in-Err-clause-err
returns-in-Err-clause-err g c = λ w from ps u has.
    let p = passage c.args.count c.args.number c.args.statement.now w c.args.world.now.state c.args.next in
    let row = (g.F.WritesRows.Rows c.args.self.now.by.now).row c.args.world.now.tables in
    let old = g.W.Write.contents c.args.to.now.writer.now in
    let new = g.W.Write.contents c.write_row.new.writer in
    let first = g.W.Write.contents from.writer.now in (
      has.0,
      has.1,
      part_of_row row from.frames.now first old new ps p has.3 (subst (λ fs. AppendsFront old new (row (framed_step fs p))) has.2 (c.in-Err.ensures w)),
    )
