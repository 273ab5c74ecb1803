use Rattle.std.proofs.Common.{rules, FitsSigned, to_z-of_z}
use mir.Syntax.{w128}
use Rattle.vcm_hardware.proofs.Farther.{farther_is, farther_small}
use Rattle.vcm_hardware.proofs.swing.farther_of.Goals as goal

pub returns-clause-value : goal.returns-clause-value
returns-clause-value c =
    let f1 : FitsSigned w128 c.args.a.far = search rules in
    let f2 : FitsSigned w128 c.args.a.wide = search rules in
    let f3 : FitsSigned w128 c.args.a.high = search rules in
    let f4 : FitsSigned w128 c.args.a.low = search rules in
    let f5 : FitsSigned w128 c.args.b.far = search rules in
    let f6 : FitsSigned w128 c.args.b.wide = search rules in
    let f7 : FitsSigned w128 c.args.b.high = search rules in
    let f8 : FitsSigned w128 c.args.b.low = search rules in
    let g1 : FitsSigned w128 c.max.result = search rules in
    let g2 : FitsSigned w128 c.max-2.result = search rules in
    let g3 : FitsSigned w128 c.max-3.result = search rules in
    let g4 : FitsSigned w128 c.min.result = search rules in
    let m = simp to_z-of_z at c.max.ensures.value in
    let n = simp to_z-of_z at c.max-2.ensures.value in
    let o = simp to_z-of_z at c.max-3.ensures.value in
    let p = simp to_z-of_z at c.min.ensures.value in
    simp to_z-of_z (farther_is c.args.a c.args.b c.max.result c.max-2.result c.max-3.result c.min.result m n o p)

pub returns-clause-small : goal.returns-clause-small
returns-clause-small c =
    let f1 : FitsSigned w128 c.args.a.far = search rules in
    let f2 : FitsSigned w128 c.args.a.wide = search rules in
    let f3 : FitsSigned w128 c.args.a.high = search rules in
    let f4 : FitsSigned w128 c.args.a.low = search rules in
    let f5 : FitsSigned w128 c.args.b.far = search rules in
    let f6 : FitsSigned w128 c.args.b.wide = search rules in
    let f7 : FitsSigned w128 c.args.b.high = search rules in
    let f8 : FitsSigned w128 c.args.b.low = search rules in
    let g1 : FitsSigned w128 c.max.result = search rules in
    let g2 : FitsSigned w128 c.max-2.result = search rules in
    let g3 : FitsSigned w128 c.max-3.result = search rules in
    let g4 : FitsSigned w128 c.min.result = search rules in
    let m = simp to_z-of_z at c.max.ensures.value in
    let n = simp to_z-of_z at c.max-2.ensures.value in
    let o = simp to_z-of_z at c.max-3.ensures.value in
    let p = simp to_z-of_z at c.min.ensures.value in
    simp to_z-of_z (farther_small c.args.a c.args.b c.max.result c.max-2.result c.max-3.result c.min.result m n o p c.requires.a c.requires.b)
