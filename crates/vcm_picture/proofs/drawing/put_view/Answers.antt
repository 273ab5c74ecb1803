use Rattle.std.proofs.Common.{◌≡◌, ◌∙◌, ap}
use Rattle.std.specs.Prelude.{codes}
use Rattle.vcm_picture.specs.Drawing.{scene, scene_shapes, view_front}
use Rattle.vcm_picture.specs.Shapes.{shapes_text}
use Rattle.vcm_svg.proofs.Appended.{text_same, three}
use Rattle.vcm_picture.proofs.drawing.put_view.Goals as goal

pub returns : goal.returns
returns c =
    let s = c.args.scope in
    let world = c.args.world.now in
    let stopped = c.args.stopped.now in
    let marks = c.args.marks.now in
    let shown = scene c.args.part.now world stopped in
    let features : c.features-features.result.now ≡ world.tables.features = c.features-features.ensures ∙ ap (λ t. t.features) c.tables.ensures in
    let shapes : c.as_slice.result.now ≡ scene_shapes s shown marks = c.as_slice.ensures.value ∙ c.in_ok-shapes.ensures in
    three _ _ _ _ _ (view_front s c.args.at) (shapes_text world.tables.features stopped (scene_shapes s shown marks)) (codes "</g>\n")
    c.in_ok-begin_view.ensures
    (text_same _ _ (λ l. shapes_text world.tables.features stopped l) _ _ shapes
    (text_same _ _ (λ f. shapes_text f stopped c.as_slice.result.now) _ _ features c.in_ok-put_shapes.ensures)) c.put.ensures
