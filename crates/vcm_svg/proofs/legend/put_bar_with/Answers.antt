use Rattle.std.proofs.Common.{◌∷◌, [], ◌*ℤ◌, pos, rules, w64, FitsSigned, to_z-of_z}
use Rattle.std.specs.Prelude.{codes}
use Rattle.vcm_num.specs.Texts.{thousandths}
use Rattle.vcm_svg.specs.Legend.{bar_label}
use Rattle.vcm_svg.specs.Outlines.{bar_line}
use Rattle.vcm_svg.specs.Pieces.{joined}
use Rattle.vcm_svg.specs.Shapes.{path, text}
use Rattle.vcm_svg.specs.declared.shapes.Class.TheVariants as class
use Rattle.vcm_svg.proofs.Appended.{two}
use Rattle.vcm_svg.proofs.legend.put_bar_with.Goals as goal

pub returns : goal.returns
returns c =
    let fs : FitsSigned w64 c.scaled.result = search rules in
    let at = c.args.at in
    let u = c.args.unit in
    let long = c.args.long in
    let t = simp to_z-of_z at c.put_text.ensures in
    two _ _ _ _ (path class.Cross (bar_line at (pos 5 *ℤ u) long))
    (text (bar_label at u long) (joined (thousandths (long *ℤ c.args.grain) ∷ codes " mm; third-angle projection" ∷ [])))
    (rw (c.bar_line.ensures, c.site.ensures, c.times.ensures) at c.in_ok-put_path.ensures) (rw (c.bar_label.ensures, c.scaled.ensures) at t)
