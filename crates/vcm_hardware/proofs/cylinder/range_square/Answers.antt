use Rattle.std.proofs.Common.{pos, ◌-ℤ◌, ◌≤ℤ◌, rules, arith, FitsSigned, to_z-of_z}
use Rattle.std.proofs.lemmas.Int.{ints}
use mir.Syntax.{w128}
use Rattle.vcm_hardware.proofs.Floors.{under_one}
use Rattle.vcm_hardware.proofs.cylinder.range_square.Goals as goal

pub returns-clause-small : goal.returns-clause-small
returns-clause-small c =
    let fl : FitsSigned w128 c.args.least = search rules in
    let fs : FitsSigned w128 c.square.result = search rules in
    let v = simp to_z-of_z at c.square.ensures.value in
    let u : (pos 100000000000000 -ℤ c.square.result) ≤ℤ pos 100000000000000 = rw v (under_one c.args.least) in
    omega (arith, ints, u)
