use Rattle.std.proofs.Common.{◌≡◌, ◌≤ℤ◌, rules, arith, FitsSigned, to_z-of_z}
use Rattle.std.proofs.lemmas.Int.{ints}
use mir.Syntax.{w64, w128}
use Rattle.vcm_hardware.proofs.Hulls.{reach_some, range_in}
use Rattle.vcm_hardware.proofs.cylinder.reach.Goals as goal

pub returns : goal.returns
returns c =
    let r = c.args.side.now.range in
    let b = c.between-all.result in
    let f1 : FitsSigned w128 c.from.result = search rules in
    let f2 : FitsSigned w128 c.from-2.result = search rules in
    let e1 : c.from.result ≡ c.args.side.now.range.low = search rules in
    let e2 : c.from-2.result ≡ c.args.side.now.range.high = search rules in
    let s1 : FitsSigned w64 c.args.side.now.range.low = search rules in
    let s2 : FitsSigned w64 c.args.side.now.range.high = search rules in
    let fl : FitsSigned w128 c.between-all.result.low = search rules in
    let fh : FitsSigned w128 c.between-all.result.high = search rules in
    let a = simp to_z-of_z at c.between.ensures.value in
    let low = simp to_z-of_z at c.between.ensures.low in
    let high = simp to_z-of_z at c.between.ensures.high in
    let le : c.between-all.result.low ≤ℤ c.between-all.result.high = omega (arith, ints, c.if-all.false) in
    let within = range_in r.low r.high c.between.result.low c.between.result.high b.low b.high s1 s2 (rw e1 at low) c.between-all.ensures.low le c.between-all.ensures.high (rw e2 at high) in
    let gl : FitsSigned w64 c.between-all.result.low = within.0 in
    let gh : FitsSigned w64 c.between-all.result.high = within.1 in
    simp to_z-of_z (reach_some c.args.side.now c.args.z c.between.result b c.from.result c.from-2.result e1 e2 a c.between-all.ensures.value le)
