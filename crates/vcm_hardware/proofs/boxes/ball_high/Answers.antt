use Rattle.std.proofs.Common.{ℤ, ◌+ℤ◌, ap, rules, arith, w64, FitsSigned, to_z-of_z}
use Rattle.std.proofs.lemmas.Int.{ints}
use mir.Syntax.{w128}
use Rattle.vcm_hardware.proofs.boxes.ball_high.Goals as goal

pub returns : goal.returns
returns c =
    let fl : FitsSigned w128 c.args.high = search rules in
    let fr : FitsSigned w128 c.args.radius = search rules in
    let ff : FitsSigned w128 c.ceil_one.result = search rules in
    let small = simp to_z-of_z at c.ceil_one.ensures.small in
    let g1 : FitsSigned w128 (c.ceil_one.result +ℤ c.args.radius) = omega (arith, ints, small, c.requires.high, c.requires.radius) in
    let g2 : FitsSigned w64 (c.ceil_one.result +ℤ c.args.radius) = omega (arith, ints, small, c.requires.high, c.requires.radius) in
    let v = simp to_z-of_z at c.ceil_one.ensures.value in
    simp to_z-of_z (ap (λ (z : ℤ). z +ℤ c.args.radius) v)
