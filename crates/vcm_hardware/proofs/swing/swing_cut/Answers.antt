use Rattle.std.proofs.Common.{◌≡◌, ◌+ℤ◌, ◌-ℤ◌, rules, arith, FitsSigned, to_z-of_z}
use Rattle.std.proofs.lemmas.Int.{ints}
use mir.Syntax.{w128}
use Rattle.vcm_hardware.proofs.Reaches.{swing_cut_is}
use Rattle.vcm_hardware.proofs.swing.swing_cut.Goals as goal

pub returns-clause-value : goal.returns-clause-value
returns-clause-value c =
    let f1 : FitsSigned w128 c.args.swing.top = search rules in
    let f2 : FitsSigned w128 c.args.swing.radius = search rules in
    let fs : FitsSigned w128 c.share.result = search rules in
    let g1 : FitsSigned w128 (c.args.swing.top +ℤ c.args.swing.radius) = omega (arith, ints, c.requires.small.top, c.requires.small.radius) in
    let g2 : FitsSigned w128 (c.share.result -ℤ c.args.swing.radius) = omega (arith, ints, c.share.ensures.small, c.requires.small.radius) in
    let e : c.from.result ≡ c.args.index = search rules in
    let v = simp to_z-of_z at c.share.ensures.value in
    simp to_z-of_z (swing_cut_is c.args.swing c.args.index c.from.result c.share.result v e)
