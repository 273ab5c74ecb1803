use Rattle.vcm_picture.specs.Marks.{contact_of}
use Rattle.vcm_sheet.specs.Content.{filing, shown_in}
use Rattle.vcm_sheet.proofs.Whole.{whole_said}
use Rattle.vcm_sheet.proofs.sheet.put_whole.Goals as goal

pub returns : goal.returns
returns c =
    let d = c.args.drawings.now in
    whole_said (filing c.args.sheet.now) c.args.first.now c.args.is_drawn c.args.window (shown_in d.top) (shown_in d.front) (shown_in d.side)
    (contact_of c.args.marks.now) c.args.points.now c.heading_lines-lines.result c.sizes_of-sizes.result.room _ _ _ _ _ _ _ _ _ _ _ _
    (rw c.contact_of-contact.ensures at (c.heading_lines-lines.ensures.value c.args.first.now)) c.sizes_of-sizes.ensures.room c.new-out.ensures.items
    c.new-heading.ensures.items c.new-tables.ensures.items c.in_ok-put_head.ensures c.in_ok-put_ground.ensures c.in_ok-begin_paper.ensures
    (rw c.contact_of-contact.ensures at c.in_ok-down.ensures) c.in_ok-append.ensures.items
    (rw (c.in_ok-ticks.ensures, c.features-features.ensures, c.tables.ensures) at c.in_ok-put_drawings.ensures)
    (rw (c.in_ok-ticks.ensures, c.used_of-used.ensures) at c.in_ok-below.ensures) c.in_ok-append-2.ensures.items c.in_ok-put_foot.ensures
