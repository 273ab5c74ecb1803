use Rattle.std.proofs.Common.{◌∙◌, ap, ◌++◌, ℕ, List, []}
use Rattle.vcm_marks.specs.declared.mark.PlacedMark.{PlacedMark}
use Rattle.vcm_picture.specs.Picture.{sheet, picture_text}
use Rattle.vcm_set_views.specs.Fit.{behind}
use Rattle.vcm_set_views.proofs.Told.{held_is, drawn_is}
use Rattle.vcm_set_views.proofs.drawn.set_picture.Goals as goal

pub returns-in-Ok : goal.returns-in-Ok
returns-in-Ok c =
    let f = c.args.fitted.now in
    let at = c.in_ok-ending.ending in
    let is = c.in_ok-ending.ensures.end in
    let way = c.in_ok-ending.ensures.way in
    let part = c.part_at-part.result.now in
    let close = c.args.is_close in
    let held = held_is at.world f.code.tables (behind f at.end.done).state.world is.tables is.state in (
      is.ended,
      c.in-Ok.ensures
          ∙ ap (λ (xs : List ℕ). xs ++ picture_text (sheet part at.world at.end.done c.marks.result.now c.left_out.result close [])) c.new-text.ensures.items
          ∙ ap (λ (ms : List PlacedMark). picture_text (sheet part at.world at.end.done ms c.left_out.result close [])) c.marks.ensures
          ∙ ap (λ (n : ℕ). picture_text (sheet part at.world at.end.done c.in_ok-ending.way.marks n close [])) c.left_out.ensures
          ∙ drawn_is f at.end close part at.world c.in_ok-ending.way at.on c.part_at-part.ensures is.on held way,
    )
