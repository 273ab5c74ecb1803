use Rattle.std.proofs.Common.{◌≡◌, ◌∙◌, ap}
use Rattle.vcm_picture.specs.Drawing.{view_shapes}
use Rattle.vcm_picture.proofs.drawing.scene_shapes.Goals as goal

pub returns : goal.returns
returns c =
    let s = c.args.scope in
    let world = c.args.world.now in
    let marks = c.args.marks.now in
    let part = c.args.part.now in
    let features : c.features-features.result.now ≡ world.tables.features = c.features-features.ensures ∙ ap (λ t. t.features) c.tables.ensures in
    c.in_ok-shapes.ensures
    ∙ ap (λ b. view_shapes s b c.bounds-bounds.result c.features-features.result.now c.position-position.result marks) c.blocks-2.ensures.blocks
    ∙ ap (λ b. view_shapes s part.blocks b c.features-features.result.now c.position-position.result marks) c.bounds-bounds.ensures.bounds
    ∙ ap (λ f. view_shapes s part.blocks part.bounds f c.position-position.result marks) features
    ∙ ap (λ p. view_shapes s part.blocks part.bounds world.tables.features p marks) c.position-position.ensures
