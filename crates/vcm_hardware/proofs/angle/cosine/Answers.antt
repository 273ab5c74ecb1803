use Rattle.std.proofs.Common.{pos, ◌-ℤ◌, ◌≤ℤ◌, ◌<ℤ◌, rules, arith, FitsSigned, to_z-of_z}
use Rattle.std.proofs.lemmas.Int.{ints}
use mir.Syntax.{w32}
use Rattle.vcm_hardware.proofs.Units.{second_quarter}
use Rattle.vcm_hardware.proofs.angle.cosine.Goals as goal

pub returns-then-rest-le24-clause-value : goal.returns-then-rest-le24-clause-value
returns-then-rest-le24-clause-value c =
    let fs : FitsSigned w32 c.args.steps = search rules in
    let fr : FitsSigned w32 c.rem_euclid-rest.result = search rules in
    let low : pos 12 <ℤ c.rem_euclid-rest.result = omega (arith, ints, c.if-rest-le12.false) in
    let high : c.rem_euclid-rest.result ≤ℤ pos 24 = omega (arith, ints, c.if-rest-le24.true) in
    let fd : FitsSigned w32 (pos 24 -ℤ c.rem_euclid-rest.result) = omega (arith, ints, low, high) in
    let rest = simp to_z-of_z at c.rem_euclid-rest.ensures.value in
    let quarter = simp to_z-of_z at c.quarter_cosine-then-rest-le24.ensures.value in
    second_quarter c.args.steps c.rem_euclid-rest.result c.quarter_cosine-then-rest-le24.result c.negative.result rest low high quarter c.negative.ensures.value
