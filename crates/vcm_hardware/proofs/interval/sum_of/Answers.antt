use Rattle.std.proofs.Common.{◌+ℤ◌, rules, arith, refl, FitsSigned, to_z-of_z}
use Rattle.std.proofs.lemmas.Int.{ints}
use mir.Syntax.{w128}
use Rattle.vcm_hardware.proofs.interval.sum_of.Goals as goal

pub returns-clause-value : goal.returns-clause-value
returns-clause-value c =
    let x = c.requires.x in
    let y = c.requires.y in
    let z = c.requires.z in
    let f1 : FitsSigned w128 c.args.x.low = search rules in
    let f2 : FitsSigned w128 c.args.y.low = search rules in
    let f3 : FitsSigned w128 c.args.z.low = search rules in
    let f4 : FitsSigned w128 c.args.x.high = search rules in
    let f5 : FitsSigned w128 c.args.y.high = search rules in
    let f6 : FitsSigned w128 c.args.z.high = search rules in
    let g1 : FitsSigned w128 (c.args.x.low +ℤ c.args.y.low) = omega (arith, ints, x.low, y.low) in
    let g2 : FitsSigned w128 (c.args.x.high +ℤ c.args.y.high) = omega (arith, ints, x.high, y.high) in
    let h1 : FitsSigned w128 (c.args.x.low +ℤ c.args.y.low +ℤ c.args.z.low) = omega (arith, ints, x.low, y.low, z.low) in
    let h2 : FitsSigned w128 (c.args.x.high +ℤ c.args.y.high +ℤ c.args.z.high) = omega (arith, ints, x.high, y.high, z.high) in
    simp to_z-of_z refl
