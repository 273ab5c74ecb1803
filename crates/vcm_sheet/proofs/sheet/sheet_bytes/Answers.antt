use Rattle.vcm_sheet.specs.Content.{filing, shown_in}
use Rattle.vcm_sheet.proofs.Whole.{content_said}
use Rattle.vcm_sheet.proofs.sheet.sheet_bytes.Goals as goal

pub returns : goal.returns
returns c =
    let d = c.in_ok-drawings.drawings in
    let marks = c.as_slice-marks.ensures.value in
    let points = c.as_slice-points.ensures.value in
    content_said (filing c.args.sheet.now) c.in_ok-shown.shown.items c.points_on-numbered.result.items c.window_shown-round.result
    c.window_on-window.result c.heading_lines-lines.result c.in_ok-line.line.items c.draws_end-is_drawn.result (shown_in d.top) (shown_in d.front)
    (shown_in d.side) c.in_ok-shown.ensures (rw c.in_ok-all_points.ensures at c.points_on-numbered.ensures)
    (rw marks at c.window_shown-round.ensures) (λ words. rw (c.contact_of.ensures, marks) at (c.heading_lines-lines.ensures.value words))
    (rw points at c.window_on-window.ensures) (rw (c.tables.ensures, c.stop.ensures) at c.in_ok-line.ensures) c.draws_end-is_drawn.ensures
    (rw (marks, points) at c.in_ok-drawings.ensures.top) (rw (marks, points) at c.in_ok-drawings.ensures.front)
    (rw (marks, points) at c.in_ok-drawings.ensures.side) c.put_whole.result (λ v. v.items)
    (rw (marks, points, c.as_slice-first.ensures.value) at c.put_whole.ensures)
