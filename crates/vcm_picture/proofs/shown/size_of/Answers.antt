use Rattle.std.proofs.Common.{◌+ℤ◌, ◌*ℤ◌, pos, rules, arith, w64, FitsSigned, to_z-of_z}
use Rattle.std.proofs.lemmas.Int.{ints}
use Rattle.vcm_picture.proofs.Boxes.{size_same}
use Rattle.vcm_picture.proofs.shown.size_of.Goals as goal

pub returns-clause-size : goal.returns-clause-size
returns-clause-size c =
    let f1 : FitsSigned w64 c.quotient-across.result = search rules in
    let f2 : FitsSigned w64 c.quotient-down.result = search rules in
    let f3 : FitsSigned w64 c.min.result = search rules in
    let f4 : FitsSigned w64 c.min-2.result = search rules in
    let f5 : FitsSigned w64 c.get.result = search rules in
    let f6 : FitsSigned w64 c.wide.result = search rules in
    let f7 : FitsSigned w64 c.high.result = search rules in
    let g3 : FitsSigned w64 c.args.digits = search rules in
    let g4 : FitsSigned w64 (pos 6 *ℤ c.args.digits) = omega (arith, ints) in
    let g5 : FitsSigned w64 (pos 6 *ℤ c.args.digits +ℤ pos 4) = omega (arith, ints) in
    let e = simp to_z-of_z at c.min-2.ensures.value in
    let f = simp to_z-of_z at c.min.ensures.value in
    let g = simp to_z-of_z at c.quotient-across.ensures.value in
    let h = simp to_z-of_z at c.quotient-down.ensures.value in
    simp to_z-of_z (size_same c.args.rect c.args.digits c.args.unit _ _ _ _ (rw c.get.ensures.number at e) f (rw c.wide.ensures at g) (rw c.high.ensures at h))
