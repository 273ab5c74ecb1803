use Rattle.std.proofs.Common.{◌∷◌, []}
use Rattle.vcm_svg.specs.Legend.{sign_in_row, words_label}
use Rattle.vcm_svg.specs.Pieces.{joined}
use Rattle.vcm_svg.specs.Shapes.{path, text}
use Rattle.vcm_svg.proofs.Appended.{two}
use Rattle.vcm_svg.proofs.legend.put_row.Goals as goal

pub returns : goal.returns
returns c =
    let at = c.args.at in
    let u = c.args.unit in
    two _ _ _ _ (path c.args.class (sign_in_row at u c.args.down c.args.sign)) (text (words_label at u c.args.down) (joined (c.args.words.now ∷ [])))
    (rw c.sign_in_row.ensures at c.in_ok-put_path.ensures) (rw c.words_label.ensures at c.put_text.ensures)
