use Rattle.std.proofs.Common.{◌∙◌, ap, flat_map, option_to_list}
use Rattle.vcm_picture.specs.Marks.{are_few, contact_of}
use Rattle.vcm_picture.specs.Way.{ends, limits_shape, pieces, touched_points}
use Rattle.vcm_svg.proofs.Appended.{four, last_same, text_same}
use Rattle.vcm_picture.proofs.way.push_way.Goals as goal

pub returns : goal.returns
returns c =
    let s = c.args.scope in
    let b = c.args.bounds in
    let marks = c.args.marks.now in
    four _ _ _ _ _ _ (option_to_list (limits_shape s b.low b.high)) (pieces s (are_few marks) marks) (touched_points s marks)
    (flat_map option_to_list (ends s b c.args.position (contact_of marks)))
    (text_same _ _ option_to_list _ _ c.limits_shape.ensures c.in_ok-push_shape.ensures)
    (text_same _ _ (λ f. pieces s f marks) _ _ c.are_few.ensures c.in_ok-push_pieces.ensures) c.in_ok-push_touched.ensures
    (last_same _ _ _ (λ e. flat_map option_to_list e) _ _ (c.ends.ensures ∙ ap (λ k. ends s b c.args.position k) c.contact_of.ensures) c.push_shapes.ensures)
