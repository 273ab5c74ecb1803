use Rattle.std.proofs.Common.{refl, ◌∷◌, [], rules, w64, FitsSigned, to_z-of_z}
use Rattle.std.specs.Fmt.{signed_decimal}
use Rattle.std.specs.Prelude.{codes}
use Rattle.vcm_sheet.proofs.Mute.{known, mute_number, mute_joined}
use Rattle.vcm_sheet.proofs.Saying.{last_mute}
use Rattle.vcm_sheet.proofs.block.put_symbol.Goals as goal

pub returns : goal.returns
returns c =
    let a = c.args.at.x in
    let b = c.args.at.y in
    let d = c.get.result in
    let fa : FitsSigned w64 c.args.at.x = search rules in
    let fb : FitsSigned w64 c.args.at.y = search rules in
    let fd : FitsSigned w64 c.get.result = search rules in
    let mute = mute_joined (codes "<path class=\"k\" fill=\"none\" transform=\"translate(" ∷ signed_decimal a ∷ codes " " ∷ signed_decimal b ∷ codes ") scale(" ∷ signed_decimal d ∷ codes ")\" style=\"stroke-width:1\" d=\"M2 0a8 8 0 1 0 16 0a8 8 0 1 0 -16 0M6 0a4 4 0 1 0 8 0a4 4 0 1 0 -8 0M26 -4L46 -8V8L26 4ZM0 0H20M10 -10V10M24 0H48\"/>\n" ∷ []) (known (λ rest. refl), (mute_number a, (known (λ rest. refl), (mute_number b, (known (λ rest. refl), (mute_number d, (known (λ rest. refl), tt))))))) in
    last_mute c.put.result _ _ _ mute (simp to_z-of_z at c.put.ensures)
