use Rattle.std.proofs.Common.{option_to_list}
use Rattle.vcm_picture.specs.Blocks.{open_shapes, hidden_shapes, number_shapes, hit_shape}
use Rattle.vcm_svg.proofs.Appended.{four, text_same}
use Rattle.vcm_picture.proofs.blocks.push_blocks.Goals as goal

pub returns : goal.returns
returns c =
    let seen = c.args.all.now in
    four _ _ _ _ _ _ (open_shapes seen) (hidden_shapes seen) (option_to_list (hit_shape c.args.faces.now c.args.contact)) (number_shapes seen)
    c.in_ok-push_open.ensures c.in_ok-push_hidden.ensures (text_same _ _ option_to_list _ _ c.hit_shape.ensures c.in_ok-push_shape.ensures)
    c.push_numbers.ensures
