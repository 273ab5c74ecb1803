use Rattle.std.proofs.Common.{ap, length, List, map, Vec, ℕ, Global}
use Rattle.vcm_spec.specs.declared.workpiece.Block3.{Block3}
use Rattle.vcm_picture.specs.Drawing.{scene}
use Rattle.vcm_picture.specs.Marks.{are_few}
use Rattle.vcm_picture.specs.Picture.{foot_text, head_text, headings_text, background_text, views, views_text}
use Rattle.vcm_svg.specs.Style.{style_text}
use Rattle.vcm_svg.proofs.Appended.{six, text_same}
use Rattle.vcm_picture.proofs.picture.put_picture.Goals as goal

pub returns : goal.returns
returns c =
    let e = c.unit-unit.ensures.value in
    let part = c.args.part.now in
    let world = c.args.world.now in
    let marks = c.args.marks.now in
    let w = c.args.window in
    let u = w.unit in
    let l = c.args.layout in
    let first = c.args.first.now in
    let untried = map (λ (v : Vec ℕ Global). v.items) c.args.untried.now in
    six _ _ _ _ _ _ _ _ (head_text l u first) (style_text u (length part.blocks) (are_few marks)) (background_text w l)
    (headings_text w l first world.state.position c.args.done marks c.args.left_out untried) (views_text w l (scene part world first) marks views) (foot_text w l)
    (rw e at c.in_ok-put_head.ensures)
    (text_same _ _ (λ n. style_text u n (are_few marks)) _ _ (ap (λ (b : List Block3). length b) c.blocks-2.ensures.blocks)
    (text_same _ _ (λ f. style_text u (length c.blocks-2.result.now) f) _ _ c.are_few.ensures (rw e at c.in_ok-put_style.ensures)))
    c.in_ok-put_background.ensures
    (text_same _ _ (λ p. headings_text w l first p c.args.done marks c.args.left_out untried) _ _ c.position-position.ensures c.in_ok-put_headings.ensures)
    c.in_ok-put_views.ensures c.put_foot.ensures
