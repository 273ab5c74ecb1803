use Rattle.std.proofs.Common.{◌≡◌, ◌∙◌, ap}
use Rattle.std.proofs.lemmas.Result.{err_from_is_err_and}
use Rattle.vcm_picture.specs.Blocks.{blocks_shapes}
use Rattle.vcm_picture.specs.Drawing.{names_shapes}
use Rattle.vcm_picture.specs.Marks.{contact_of}
use Rattle.vcm_picture.specs.Shown.{all_seen, faces_from}
use Rattle.vcm_picture.specs.Way.{way_shapes}
use Rattle.vcm_picture.proofs.Drawings.{three_made}
use Rattle.vcm_svg.proofs.Appended.{text_same}
use Rattle.vcm_picture.proofs.drawing.view_shapes.Goals as goal

pub returns-in_err-push_names : goal.returns-in_err-push_names
returns-in_err-push_names c =
    let p = err_from_is_err_and c.from_residual-in_err-push_names.result c.from_residual-in_err-push_names.ensures.1 in
    rw p.1 tt

pub returns : goal.returns
returns c =
    let s = c.args.scope in
    let marks = c.args.marks.now in
    let made = faces_from s 1 c.args.blocks.now in
    let shown = all_seen s.unit made in
    let faces : c.as_slice-2.result.now ≡ made = c.as_slice-2.ensures.value ∙ c.in_ok-faces.ensures in
    let given : c.as_slice.result.now ≡ made = c.as_slice.ensures.value ∙ c.in_ok-faces.ensures in
    let seen : c.as_slice-seen.result.now ≡ shown =
    c.as_slice-seen.ensures.value ∙ (rw c.unit.ensures at c.in_ok-all.ensures) ∙ ap (λ f. all_seen s.unit f) given in
    three_made _ _ _ _ (blocks_shapes made shown (contact_of marks)) (way_shapes s c.args.bounds c.args.position marks)
    (names_shapes s c.args.bounds.home c.args.features.now c.args.position marks shown) c.new-shapes.ensures.items
    (text_same _ _ (λ f. blocks_shapes f shown (contact_of marks)) _ _ faces
    (text_same _ _ (λ v. blocks_shapes c.as_slice-2.result.now v (contact_of marks)) _ _ seen
    (text_same _ _ (λ k. blocks_shapes c.as_slice-2.result.now c.as_slice-seen.result.now k) _ _ c.contact_of.ensures c.in_ok-push_blocks.ensures)))
    c.in_ok-push_way.ensures
    (text_same _ _ (λ v. names_shapes s c.args.bounds.home c.args.features.now c.args.position marks v) _ _ seen c.in_ok-push_names.ensures)
