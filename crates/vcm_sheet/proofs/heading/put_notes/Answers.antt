use Rattle.std.proofs.Common.{ℕ, List, Vec, Global, subst, ap, ◌∙◌}
use Rattle.vcm_sheet.specs.Heading.{note_line}
use Rattle.vcm_sheet.specs.Sayings.{Adds}
use Rattle.vcm_sheet.proofs.Saying.{row_more, all_rows}
use Rattle.vcm_sheet.proofs.heading.put_notes.Goals as goal

pub loop-line-preserved : goal.loop-line-preserved
loop-line-preserved c = record {
  rows = row_more (λ line. note_line line.items) c.args.lines.now c.loop-line.line-index _ _ _ _ c.loop-line-test.true c.loop-line.invariant.rows
      (subst (λ (x : List ℕ). Adds (note_line x) c.loop-line.out.items c.put_note.new.out.items) (c.as_slice.ensures.value ∙ ap (λ (v : Vec ℕ Global). v.items) c.line-item.is)
      c.in_ok-down.ensures);
}

pub returns : goal.returns
returns c = all_rows (λ line. note_line line.items) c.args.lines.now c.loop-line.line-index _ _ c.loop-line-test.false c.loop-line.invariant.rows
