use Rattle.std.proofs.Common.{refl, ◌∷◌, [], pos, ◌+ℤ◌, ◌*ℤ◌, rules, w64, FitsSigned, to_z-of_z}
use Rattle.std.specs.Fmt.{signed_decimal}
use Rattle.std.specs.Prelude.{codes}
use Rattle.vcm_svg.specs.Pieces.{joined}
use Rattle.vcm_svg.specs.Rect.{spot}
use Rattle.vcm_sheet.proofs.Saying.{last_at}
use Rattle.vcm_sheet.proofs.sheet.put_number.Goals as goal

pub returns : goal.returns
returns c =
    let n = c.args.number.now in
    let f : FitsSigned w64 n.point.number = search rules in
    last_at c.put_words.result (spot n.area.left (n.area.top +ℤ pos 8 *ℤ c.args.unit)) c.args.unit (codes " class=\"p c\"")
    (joined (signed_decimal n.point.number ∷ [])) _ _ refl (rw (c.first_letter-at.ensures, c.times.ensures) at (simp to_z-of_z at c.put_words.ensures))
