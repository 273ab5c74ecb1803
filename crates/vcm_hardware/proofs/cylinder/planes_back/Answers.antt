use Rattle.std.proofs.Common.{pos, ◌-ℤ◌, rules, arith, FitsSigned, to_z-of_z}
use Rattle.std.proofs.lemmas.Int.{ints}
use mir.Syntax.{w128}
use Rattle.vcm_hardware.specs.inner.Sizes.{IsSlope}
use Rattle.vcm_hardware.proofs.Signs.{back_is}
use Rattle.vcm_hardware.proofs.cylinder.planes_back.Goals as goal

pub returns-in-Some-clause-value : goal.returns-in-Some-clause-value
returns-in-Some-clause-value c =
    let fs : FitsSigned w128 c.in-Some.slope = search rules in
    let is : IsSlope c.in-Some.slope = rw c.in-Some.is at c.requires.slope in
    let fn : FitsSigned w128 (pos 0 -ℤ c.in-Some.slope) = omega (arith, ints, is) in
    let v = simp to_z-of_z at c.planes_of.ensures.value in
    rw c.in-Some.is (back_is c.args.seen.now c.args.main c.args.axis c.planes_of.result c.in-Some.slope v)
