use Rattle.std.proofs.Common.{◌≡◌, ◌∙◌, ap}
use Rattle.vcm_views.specs.Untried.{flagged, marks_with}
use Rattle.vcm_views.proofs.PictureViews.{drawn_of, drawn_in_part}
use Rattle.vcm_views.proofs.pictures.draw.Goals as goal

pub returns-in-Ok-write_picture-clause-drawn : goal.returns-in-Ok-write_picture-clause-drawn
returns-in-Ok-write_picture-clause-drawn g c =
    let untried = c.args.untried.now in
    let way = c.args.way.now in
    let marks : c.as_slice.result.now ≡ marks_with untried way.marks =
    c.as_slice.ensures.value ∙ c.in-Ok.ensures ∙ ap (flagged untried.elsewhere.now) c.marks.ensures in
    drawn_of c.args.part.now c.args.world.now c.args.done way c.args.is_close untried _ _ marks c.left_out.ensures _ _ _ _ c.status_of-status.ensures
    c.stop.ensures c.in-Ok-write_picture.ensures

pub returns-clause-fault : goal.returns-clause-fault
returns-clause-fault g c =
    let untried = c.args.untried.now in
    let way = c.args.way.now in
    let marks : c.as_slice.result.now ≡ marks_with untried way.marks =
    c.as_slice.ensures.value ∙ c.in-Ok.ensures ∙ ap (flagged untried.elsewhere.now) c.marks.ensures in
    drawn_in_part c.args.part.now c.args.world.now c.args.done way c.args.is_close untried _ _ marks c.left_out.ensures _ _
    (rw c.in-Err-Write.field-0-is at c.in-Err-Write.ensures)
