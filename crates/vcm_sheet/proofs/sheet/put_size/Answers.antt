use Rattle.std.proofs.Common.{refl, ◌∷◌, [], rules, w64, FitsSigned, to_z-of_z}
use Rattle.std.specs.Fmt.{signed_decimal}
use Rattle.std.specs.Prelude.{codes}
use Rattle.vcm_sheet.proofs.Mute.{known, mute_number, mute_joined}
use Rattle.vcm_sheet.proofs.Saying.{last_mute}
use Rattle.vcm_sheet.proofs.sheet.put_size.Goals as goal

pub returns : goal.returns
returns c =
    let a = c.args.places.now.wide in
    let b = c.args.places.now.high in
    let d = c.size_shown-wide.result.0 in
    let e = c.size_shown-wide.result.1 in
    let m = c.measure_of-measure.result.now in
    let q = c.measure_of-measure.ensures in
    let fa : FitsSigned w64 c.args.places.now.wide = search rules in
    let fb : FitsSigned w64 c.args.places.now.high = search rules in
    let fd : FitsSigned w64 c.size_shown-wide.result.0 = search rules in
    let fe : FitsSigned w64 c.size_shown-wide.result.1 = search rules in
    let mute = mute_joined (codes "<svg xmlns=\"http://www.w3.org/2000/svg\" viewBox=\"0 0 " ∷ signed_decimal a ∷ codes " " ∷ signed_decimal b ∷ codes "\" width=\"" ∷ signed_decimal d ∷ m ∷ codes "\" height=\"" ∷ signed_decimal e ∷ m ∷ codes "\">\n" ∷ []) (known (λ rest. refl), (mute_number a, (known (λ rest. refl), (mute_number b, (known (λ rest. refl), (mute_number d, (q, (known (λ rest. refl), (mute_number e, (q, (known (λ rest. refl), tt))))))))))) in
    last_mute c.put.result _ _ _ mute (simp to_z-of_z at c.put.ensures)
