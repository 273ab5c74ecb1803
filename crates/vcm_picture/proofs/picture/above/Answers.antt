use Rattle.std.proofs.Common.{refl, ◌+ℤ◌, arith, w64, FitsSigned, to_z-of_z}
use Rattle.std.proofs.lemmas.Int.{ints}
use Rattle.vcm_picture.proofs.picture.above.Goals as goal

pub returns-clause-above : goal.returns-clause-above
returns-clause-above c =
    let a = c.heading_high.ensures in
    let b = c.notes_high.ensures in
    let high : FitsSigned w64 c.heading_high.result = omega (arith, ints, a.from_below, a.from_above) in
    let notes : FitsSigned w64 c.notes_high.result = omega (arith, ints, b.from_below, b.from_above) in
    let both : FitsSigned w64 (c.heading_high.result +ℤ c.notes_high.result) = omega (arith, ints, a.from_below, a.from_above, b.from_below, b.from_above) in
    rw (to_z-of_z high, to_z-of_z notes, to_z-of_z both, a.high, b.high) refl
