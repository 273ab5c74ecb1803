use Rattle.std.proofs.Common.{refl, ◌∷◌, [], rules, w64, FitsSigned, to_z-of_z}
use Rattle.std.specs.Fmt.{signed_decimal}
use Rattle.std.specs.Prelude.{codes}
use Rattle.vcm_sheet.proofs.Mute.{known, mute_number, mute_joined}
use Rattle.vcm_sheet.proofs.Saying.{last_mute}
use Rattle.vcm_sheet.proofs.block.begin_frame.Goals as goal

pub returns : goal.returns
returns c =
    let a = c.units.result in
    let b = c.units-2.result in
    let fa : FitsSigned w64 c.units.result = search rules in
    let fb : FitsSigned w64 c.units-2.result = search rules in
    let mute = mute_joined (codes "<g transform=\"translate(" ∷ signed_decimal a ∷ codes " " ∷ signed_decimal b ∷ codes ")\">\n" ∷ []) (known (λ rest. refl), (mute_number a, (known (λ rest. refl), (mute_number b, (known (λ rest. refl), tt))))) in
    last_mute c.put.result _ _ _ mute (simp to_z-of_z at c.put.ensures)
