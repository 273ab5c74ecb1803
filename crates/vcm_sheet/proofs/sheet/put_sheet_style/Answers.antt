use Rattle.std.proofs.Common.{refl, ◌∷◌, [], rules, w64, FitsSigned, to_z-of_z}
use Rattle.std.specs.Fmt.{signed_decimal}
use Rattle.std.specs.Prelude.{codes}
use Rattle.vcm_sheet.proofs.Mute.{known, mute_number, mute_joined}
use Rattle.vcm_sheet.proofs.Saying.{last_mute}
use Rattle.vcm_sheet.proofs.sheet.put_sheet_style.Goals as goal

pub returns : goal.returns
returns c =
    let a = c.get.result in
    let b = c.get-2.result in
    let d = c.units.result in
    let e = c.units-2.result in
    let fa : FitsSigned w64 c.get.result = search rules in
    let fb : FitsSigned w64 c.get-2.result = search rules in
    let fd : FitsSigned w64 c.units.result = search rules in
    let fe : FitsSigned w64 c.units-2.result = search rules in
    let mute = mute_joined
    (codes "<style>\n.t{text-anchor:middle}\n.r{text-anchor:end}\n.c{fill:#b34700;font-weight:bold}\n.k{stroke:#555;stroke-width:"
    ∷ signed_decimal a ∷ codes "}\n.z{fill:none;stroke:#999;stroke-width:" ∷ signed_decimal b ∷ codes ";stroke-dasharray:" ∷ signed_decimal d
    ∷ codes " " ∷ signed_decimal e ∷ codes "}\n</style>\n" ∷ [])
    (known (λ rest. refl), (mute_number a, (known (λ rest. refl), (mute_number b, (known (λ rest. refl), (mute_number d, (known (λ rest. refl), (mute_number e, (known (λ rest. refl), tt))))))))) in
    last_mute c.put.result _ _ _ mute (simp to_z-of_z at c.put.ensures)
