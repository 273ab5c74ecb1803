use Rattle.std.proofs.Common.{◌∷◌, [], pos}
use Rattle.vcm_svg.specs.Heading.{heading_label, left_out_text, position_text}
use Rattle.vcm_svg.specs.Pieces.{joined}
use Rattle.vcm_svg.specs.Shapes.{text}
use Rattle.vcm_svg.proofs.Appended.{three}
use Rattle.vcm_svg.proofs.heading.put_heading.Goals as goal

pub returns : goal.returns
returns c =
    let u = c.args.unit in
    three _ _ _ _ _ (text (heading_label u (pos 20)) (joined (c.args.first.now ∷ []))) (position_text u c.args.position c.args.done)
    (left_out_text u c.args.left_out)
    (rw c.heading_label.ensures at c.in_ok-put_text.ensures) (rw c.heading_label-2.ensures at c.in_ok-put_text-2.ensures) c.put_left_out.ensures
