use Rattle.std.proofs.Common.{◌++◌}
use Rattle.vcm_picture.specs.declared.view.View.{View}
use Rattle.vcm_sheet.specs.declared.views.Drawing.{Drawing}
use Rattle.vcm_picture.specs.declared.view.View.TheVariants.{Top, Front, Side}
use Rattle.vcm_picture.specs.View.{scope_of}
use Rattle.vcm_sheet.specs.Content.{shown_in}
use Rattle.vcm_sheet.specs.Views.{view_said}
use Rattle.vcm_sheet.proofs.Saying.{adds_then}
use Rattle.vcm_sheet.proofs.sheet.put_drawings.Goals as goal

pub returns : goal.returns
returns c =
    let r = c.put_drawing-3.result in
    let d = c.args.drawings.now in
    let said = λ (v : View) (x : Drawing). view_said c.args.features.now c.args.stopped.now (scope_of c.args.window v) c.args.ticks.now (shown_in x) c.args.points in
    adds_then r (said Top d.top) (said Front d.front ++ said Side d.side) _ _ _ (rw c.scope_of-top.ensures at c.in_ok-put_drawing.ensures)
    (adds_then r (said Front d.front) (said Side d.side) _ _ _ (rw c.scope_of-front.ensures at c.in_ok-put_drawing-2.ensures)
    (rw c.scope_of-side.ensures at c.put_drawing-3.ensures))
