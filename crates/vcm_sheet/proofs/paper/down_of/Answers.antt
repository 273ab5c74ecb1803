use Rattle.std.proofs.Common.{◌+ℤ◌, refl, rules, arith, w64, FitsSigned, to_z-of_z}
use Rattle.std.proofs.lemmas.Int.{ints}
use Rattle.vcm_sheet.proofs.paper.down_of.Goals as goal

pub returns : goal.returns
returns c =
    let a : FitsSigned w64 c.full.result = search rules in
    let b : FitsSigned w64 c.full-2.result = search rules in
    let s : FitsSigned w64 (c.full.result +ℤ c.full-2.result) = omega (arith, ints, c.full.ensures.size, c.full-2.ensures.size) in
    simp to_z-of_z (rw (c.full.ensures.value, c.full-2.ensures.value) refl)
