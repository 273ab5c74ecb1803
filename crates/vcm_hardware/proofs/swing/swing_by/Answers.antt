use Rattle.std.proofs.Common.{◌+ℤ◌, rules, arith, w32, FitsSigned, to_z-of_z}
use Rattle.std.proofs.lemmas.Int.{ints, clamps}
use mir.Syntax.{w128}
use Rattle.vcm_hardware.proofs.Reaches.{swing_is}
use Rattle.vcm_hardware.proofs.swing.swing_by.Goals as goal

pub returns-clause-value : goal.returns-clause-value
returns-clause-value c =
    let fs : FitsSigned w32 c.args.steps = search rules in
    let f1 : FitsSigned w128 c.args.all.far = search rules in
    let f2 : FitsSigned w128 c.args.all.wide = search rules in
    let f3 : FitsSigned w128 c.args.all.high = search rules in
    let f4 : FitsSigned w128 c.args.all.low = search rules in
    let fr : FitsSigned w128 c.raised.result = search rules in
    let fm : FitsSigned w128 c.min.result = search rules in
    let g1 : FitsSigned w128 (c.args.all.wide +ℤ c.args.all.high) = omega (arith, ints, c.requires.wide, c.requires.high) in
    let g2 : FitsSigned w128 (c.args.all.wide +ℤ c.args.all.high +ℤ c.raised.result) = omega (arith, ints, c.requires.wide, c.requires.high, c.raised.ensures.small) in
    let r = simp to_z-of_z at c.raised.ensures.value in
    let m = simp to_z-of_z at c.min.ensures.value in
    simp to_z-of_z (swing_is c.args.all c.args.steps c.raised.result c.min.result r m)

pub returns-clause-small : goal.returns-clause-small
returns-clause-small c =
    let f1 : FitsSigned w128 c.args.all.far = search rules in
    let f2 : FitsSigned w128 c.args.all.wide = search rules in
    let f3 : FitsSigned w128 c.args.all.high = search rules in
    let fr : FitsSigned w128 c.raised.result = search rules in
    let fm : FitsSigned w128 c.min.result = search rules in
    let g1 : FitsSigned w128 (c.args.all.wide +ℤ c.args.all.high) = omega (arith, ints, c.requires.wide, c.requires.high) in
    let g2 : FitsSigned w128 (c.args.all.wide +ℤ c.args.all.high +ℤ c.raised.result) = omega (arith, ints, c.requires.wide, c.requires.high, c.raised.ensures.small) in
    let m = simp to_z-of_z at c.min.ensures.value in
    record {
      radius = omega (arith, ints, c.requires.far);
      top = omega (arith, ints, clamps, m, c.requires.far, c.requires.wide, c.requires.high, c.raised.ensures.small);
    }
