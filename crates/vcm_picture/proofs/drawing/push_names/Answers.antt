use Rattle.std.proofs.Common.{◌∙◌, ap, flat_map, option_to_list}
use Rattle.vcm_picture.specs.Drawing.{feature_shapes}
use Rattle.vcm_picture.specs.Names.{first_names, with_first}
use Rattle.vcm_picture.proofs.Drawings.{names_put}
use Rattle.vcm_svg.proofs.Appended.{last_same, text_same}
use Rattle.vcm_picture.proofs.drawing.push_names.Goals as goal

pub returns : goal.returns
returns c =
    let s = c.args.scope in
    let contact = c.contact_of-contact.result in
    let first = c.in_ok-first.first in
    names_put _ _ _ _ s c.args.home c.args.position c.args.features.now c.args.marks.now c.args.all.now contact first _ _ _
    c.contact_of-contact.ensures
    (c.in_ok-first.ensures.names ∙ ap (λ t. first_names s contact c.args.position c.args.home t) c.new-taken.ensures.items)
    (c.in_ok-first.ensures.taken ∙ ap (λ t. with_first t first) c.new-taken.ensures.items) c.in_ok-take_figures.ensures c.in_ok-named.ensures
    (text_same _ _ (λ e. flat_map option_to_list e) _ _ (rw c.unit.ensures at c.first_shapes.ensures) c.in_ok-push_shapes.ensures)
    (last_same _ _ _ (λ n. feature_shapes s.unit n) _ _ c.as_slice.ensures.value (rw c.unit-2.ensures at c.push_features.ensures))
