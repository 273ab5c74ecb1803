use Rattle.std.proofs.Common.{refl, ◌∷◌, [], rules, w64, FitsSigned, to_z-of_z}
use Rattle.std.specs.Fmt.{signed_decimal}
use Rattle.std.specs.Prelude.{codes}
use Rattle.vcm_sheet.specs.Sayings.{say}
use Rattle.vcm_sheet.proofs.Mute.{known, mute_number, mute_joined}
use Rattle.vcm_sheet.proofs.Saying.{adds_both, adds_mute}
use Rattle.vcm_sheet.proofs.rows.put_origin.Goals as goal

pub returns : goal.returns
returns c =
    let h = c.if-not-has_origin.false in
    let x = c.args.at.x in
    let y = c.args.at.y in
    let z = c.units.result in
    let fx : FitsSigned w64 c.args.at.x = search rules in
    let fy : FitsSigned w64 c.args.at.y = search rules in
    let fz : FitsSigned w64 c.units.result = search rules in
    let mute = mute_joined
    (codes "<path class=\"z\" d=\"M" ∷ signed_decimal x ∷ codes " " ∷ signed_decimal y ∷ codes "h" ∷ signed_decimal z ∷ codes "\"/>\n" ∷ [])
    (known (λ rest. refl), (mute_number x, (known (λ rest. refl), (mute_number y, (known (λ rest. refl), (mute_number z, (known (λ rest. refl), tt))))))) in
    rw h (adds_both [] (say (codes "X, Y or Z is 0" ∷ []) ∷ []) _ _ _ (adds_mute _ _ _ mute (simp to_z-of_z at c.in_ok-put.ensures)) c.in_ok-put_cell.ensures)
