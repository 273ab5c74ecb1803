use Rattle.std.proofs.Common.{◌-ℤ◌, rules, arith, w64, FitsSigned, to_z-of_z}
use Rattle.std.proofs.lemmas.Int.{ints}
use Rattle.vcm_picture.proofs.Signed.{quotient_small, difference_small}
use Rattle.vcm_picture.proofs.view.offset.Goals as goal

pub returns-clause-value : goal.returns-clause-value
returns-clause-value c =
    let fr : FitsSigned w64 c.quotient.result = search rules in
    let fa : FitsSigned w64 c.args.number = search rules in
    let fb : FitsSigned w64 c.args.from = search rules in
    let fg : FitsSigned w64 c.get.result = search rules in
    let fd : FitsSigned w64 (c.args.number -ℤ c.args.from) = omega (arith, ints) in
    let e = simp to_z-of_z at c.quotient.ensures.value in
    rw (to_z-of_z fr) (rw c.get.ensures.number at e)

pub returns-clause-small : goal.returns-clause-small
returns-clause-small c =
    let fr : FitsSigned w64 c.quotient.result = search rules in
    let fa : FitsSigned w64 c.args.number = search rules in
    let fb : FitsSigned w64 c.args.from = search rules in
    let fd : FitsSigned w64 (c.args.number -ℤ c.args.from) = omega (arith, ints) in
    rw (to_z-of_z fr) (quotient_small _ _ (difference_small _ _ c.requires.number c.requires.from)
    (simp to_z-of_z at c.quotient.ensures.from_zero) (simp to_z-of_z at c.quotient.ensures.to_value)
    (simp to_z-of_z at c.quotient.ensures.below_zero) (simp to_z-of_z at c.quotient.ensures.from_value))
