use Rattle.std.proofs.Common.{◌∷◌, [], ◌++◌, length, refl}
use Rattle.std.specs.Prelude.{flat_map, codes}
use Rattle.vcm_picture.specs.Shapes.{shapes_text}
use Rattle.vcm_picture.specs.View.{right_axis, up_axis, title}
use Rattle.vcm_sheet.specs.Content.{shown_in}
use Rattle.vcm_sheet.specs.Sayings.{Pictured, say}
use Rattle.vcm_sheet.specs.Ticks.{axis_of, ticks_said}
use Rattle.vcm_sheet.specs.Views.{number_said, missing_line}
use Rattle.vcm_sheet.proofs.Mute.{known}
use Rattle.vcm_sheet.proofs.Saying.{adds_mute, adds_said, adds_then}
use Rattle.vcm_sheet.proofs.Whole.{adds_front}
use Rattle.vcm_sheet.proofs.sheet.put_drawing.Goals as goal

pub returns : goal.returns
returns c =
    let s = c.args.scope in
    let d = shown_in c.args.drawing.now in
    let r = c.put_ticks.result in
    let missing = missing_line c.args.points (length d.numbers) in
    let head = say (title s.view ∷ []) ∷ [] in
    let bytes = shapes_text c.args.features.now c.args.stopped.now d.shapes in
    let numbers = flat_map (number_said s.unit) d.numbers in
    let ticks = ticks_said (axis_of c.args.ticks.now (right_axis s.view)) ++ ticks_said (axis_of c.args.ticks.now (up_axis s.view)) in
    adds_then r missing (head ++ (Pictured bytes ∷ (numbers ++ ticks))) _ _ _ (rw c.as_slice-numbers.ensures.value at c.in_ok-put_missing.ensures)
    (adds_then r head (Pictured bytes ∷ (numbers ++ ticks)) _ _ _ (adds_front s c.args.at _ _ c.in_ok-begin_view.ensures)
    (adds_then r [] (Pictured bytes ∷ (numbers ++ ticks)) _ _ _ c.in_ok-put_axes.ensures
    (adds_then r (Pictured bytes ∷ []) (numbers ++ ticks) _ _ _
    (adds_said (Pictured bytes) _ _ bytes refl (rw c.as_slice.ensures.value at c.in_ok-put_shapes.ensures))
    (adds_then r numbers ticks _ _ _ (rw (c.as_slice-numbers.ensures.value, c.unit.ensures) at c.in_ok-put_numbers.ensures)
    (adds_then r [] ticks _ _ _ (adds_mute _ _ (codes "</g>\n") (known (λ rest. refl)) c.in_ok-put.ensures) c.put_ticks.ensures)))))
