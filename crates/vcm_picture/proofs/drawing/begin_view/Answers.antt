use Rattle.std.proofs.Common.{◌∷◌, []}
use Rattle.vcm_picture.specs.Drawing.{frame_of, group_text, title_label}
use Rattle.vcm_picture.specs.View.{title}
use Rattle.vcm_svg.specs.Pieces.{joined}
use Rattle.vcm_svg.specs.Shapes.{path, text}
use Rattle.vcm_svg.specs.declared.shapes.Class.TheVariants as class
use Rattle.vcm_svg.proofs.Appended.{three}
use Rattle.vcm_picture.proofs.drawing.begin_view.Goals as goal

pub returns : goal.returns
returns c =
    let s = c.args.scope in
    three _ _ _ _ _ (text (title_label c.args.at s.unit) (joined (title s.view ∷ []))) (group_text s.view c.args.at) (path class.Frame (frame_of s))
    (rw (c.title_label.ensures, c.unit.ensures, c.title.ensures, c.view.ensures) at c.in_ok-put_text.ensures) (rw c.view-2.ensures at c.in_ok-begin_group.ensures)
    (rw c.frame_of.ensures at c.put_path.ensures)
