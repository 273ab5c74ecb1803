use Rattle.std.proofs.Common.{map, Vec, ℕ, Global}
use Rattle.vcm_svg.specs.Heading.{heading_text}
use Rattle.vcm_svg.specs.Notes.{notes_text}
use Rattle.vcm_picture.specs.Marks.{begin_elsewhere}
use Rattle.vcm_picture.specs.Picture.{below_heading, legend_spot}
use Rattle.vcm_svg.proofs.Appended.{two}
use Rattle.vcm_picture.proofs.picture.put_headings.Goals as goal

pub returns : goal.returns
returns c =
    let e = c.unit-unit.ensures.value in
    let u = c.args.window.unit in
    let left_out = c.args.left_out in
    let untried = map (λ (v : Vec ℕ Global). v.items) c.args.untried.now in
    two _ _ _ _ (heading_text u c.args.first.now c.args.position c.args.done left_out)
    (notes_text u (below_heading left_out) untried (legend_spot c.args.layout u) (begin_elsewhere c.args.marks.now)) (rw e at c.in_ok-put_heading.ensures)
    (rw (c.below_heading.ensures, c.legend_spot.ensures, c.begin_elsewhere.ensures, e) at c.put_notes.ensures)
