use Rattle.vcm_picture.specs.View.{right_axis, up_axis}
use Rattle.vcm_sheet.specs.Ticks.{axis_of, ticks_said}
use Rattle.vcm_sheet.proofs.Saying.{adds_then}
use Rattle.vcm_sheet.proofs.frames.put_ticks.Goals as goal

pub returns : goal.returns
returns c =
    let v = c.args.scope.view in
    adds_then c.put_up.result (ticks_said (axis_of c.args.ticks.now (right_axis v))) (ticks_said (axis_of c.args.ticks.now (up_axis v))) _ _ _
    (rw (c.of.ensures, c.right_axis.ensures.axis, c.view.ensures) at c.in_ok-put_across.ensures)
    (rw (c.of-2.ensures, c.up_axis.ensures.axis, c.view-2.ensures) at c.put_up.ensures)
