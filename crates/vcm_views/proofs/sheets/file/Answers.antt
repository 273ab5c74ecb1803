use Rattle.std.proofs.Common.{◌≡◌, ◌∙◌, ap}
use Rattle.vcm_num.specs.Written.{AppendsFront}
use Rattle.vcm_views.specs.Untried.{flagged, marks_with}
use Rattle.vcm_views.proofs.PictureViews.{filed_of, said_of}
use Rattle.vcm_views.proofs.sheets.file.Goals as goal

pub returns-in-Ok-write_sheet-clause-filed : goal.returns-in-Ok-write_sheet-clause-filed
returns-in-Ok-write_sheet-clause-filed g c =
    let titles = c.args.titles.now in
    let way = c.args.way.now in
    let marks : c.as_slice.result.now ≡ marks_with titles.untried way.marks =
    c.as_slice.ensures.value ∙ c.in-Ok.ensures ∙ ap (flagged titles.untried.elsewhere.now) c.marks.ensures in
    filed_of titles c.args.part.now c.args.world.now c.args.done way _ _ c.args.readings.now marks c.left_out.ensures _ _ _ _ c.status_of-status.ensures c.stop.ensures
    c.in-Ok-write_sheet.ensures

pub returns-clause-fault : goal.returns-clause-fault
returns-clause-fault g c =
    let titles = c.args.titles.now in
    let way = c.args.way.now in
    let marks : c.as_slice.result.now ≡ marks_with titles.untried way.marks =
    c.as_slice.ensures.value ∙ c.in-Ok.ensures ∙ ap (flagged titles.untried.elsewhere.now) c.marks.ensures in
    said_of titles c.args.part.now c.args.world.now c.args.done way _ _ c.args.readings.now marks c.left_out.ensures (AppendsFront _ _)
    (rw c.in-Err-Write.field-0-is at c.in-Err-Write.ensures)
