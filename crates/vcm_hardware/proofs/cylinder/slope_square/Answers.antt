use Rattle.std.proofs.Common.{pos, ◌+ℤ◌, ◌-ℤ◌, rules, arith, refl, FitsSigned, to_z-of_z}
use Rattle.std.proofs.lemmas.Int.{ints}
use mir.Syntax.{w128}
use Rattle.vcm_hardware.proofs.cylinder.slope_square.Goals as goal

pub returns : goal.returns
returns c =
    let fs : FitsSigned w128 c.args.slope = search rules in
    let fl : FitsSigned w128 c.args.least = search rules in
    let f1 : FitsSigned w128 c.square.result = search rules in
    let f2 : FitsSigned w128 c.square-2.result = search rules in
    let g1 : FitsSigned w128 (pos 100000000000000 +ℤ c.square.result) = omega (arith, ints, c.square.ensures.small) in
    let g2 : FitsSigned w128 (pos 100000000000000 +ℤ c.square.result -ℤ c.square-2.result) = omega (arith, ints, c.square.ensures.small, c.square-2.ensures.small) in
    let s = simp to_z-of_z at c.square.ensures.value in
    let l = simp to_z-of_z at c.square-2.ensures.value in
    simp to_z-of_z (rw (s, l) refl)
