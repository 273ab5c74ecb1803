use Rattle.std.proofs.Common.{refl, ◌∷◌, [], rules, w64, FitsSigned, to_z-of_z}
use Rattle.std.specs.Fmt.{signed_decimal}
use Rattle.std.specs.Prelude.{codes}
use Rattle.vcm_sheet.proofs.Mute.{known, mute_number, mute_joined}
use Rattle.vcm_sheet.proofs.Saying.{last_mute}
use Rattle.vcm_sheet.proofs.block.put_frame.Goals as goal

pub returns : goal.returns
returns c =
    let a = c.units.result in
    let b = c.units-2.result in
    let d = c.units-3.result in
    let e = c.units-4.result in
    let g = c.units-5.result in
    let h = c.units-6.result in
    let i = c.units-7.result in
    let fa : FitsSigned w64 c.units.result = search rules in
    let fb : FitsSigned w64 c.units-2.result = search rules in
    let fd : FitsSigned w64 c.units-3.result = search rules in
    let fe : FitsSigned w64 c.units-4.result = search rules in
    let fg : FitsSigned w64 c.units-5.result = search rules in
    let fh : FitsSigned w64 c.units-6.result = search rules in
    let fi : FitsSigned w64 c.units-7.result = search rules in
    let mute = mute_joined (codes "</g>\n<path class=\"k\" fill=\"none\" d=\"M" ∷ signed_decimal a ∷ codes " " ∷ signed_decimal b ∷ codes "H" ∷ signed_decimal d ∷ codes "V" ∷ signed_decimal e ∷ codes "H" ∷ signed_decimal g ∷ codes "Zm0 " ∷ signed_decimal h ∷ codes "H" ∷ signed_decimal i ∷ codes "\"/>\n" ∷ []) (known (λ rest. refl), (mute_number a, (known (λ rest. refl), (mute_number b, (known (λ rest. refl), (mute_number d, (known (λ rest. refl), (mute_number e, (known (λ rest. refl), (mute_number g, (known (λ rest. refl), (mute_number h, (known (λ rest. refl), (mute_number i, (known (λ rest. refl), tt))))))))))))))) in
    last_mute c.put.result _ _ _ mute (simp to_z-of_z at c.put.ensures)
