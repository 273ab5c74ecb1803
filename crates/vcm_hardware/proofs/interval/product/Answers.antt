use Rattle.std.proofs.Common.{rules, FitsSigned, to_z-of_z}
use mir.Syntax.{w32, w128}
use Rattle.vcm_hardware.proofs.Floors.{product_is}
use Rattle.vcm_hardware.proofs.interval.product.Goals as goal

pub returns-clause-value : goal.returns-clause-value
returns-clause-value c =
    let x1 : FitsSigned w32 c.args.x.low = search rules in
    let x2 : FitsSigned w32 c.args.x.high = search rules in
    let y1 : FitsSigned w32 c.args.y.low = search rules in
    let y2 : FitsSigned w32 c.args.y.high = search rules in
    let fa : FitsSigned w128 c.times-a.result = search rules in
    let fb : FitsSigned w128 c.times-b.result = search rules in
    let fc : FitsSigned w128 c.times-c.result = search rules in
    let fd : FitsSigned w128 c.times-d.result = search rules in
    let fl : FitsSigned w128 c.least_of.result = search rules in
    let fg : FitsSigned w128 c.greatest_of.result = search rules in
    let low : FitsSigned w32 c.unit_down.result = search rules in
    let high : FitsSigned w32 c.unit_up.result = search rules in
    let a = simp to_z-of_z at c.times-a.ensures.value in
    let b = simp to_z-of_z at c.times-b.ensures.value in
    let d = simp to_z-of_z at c.times-c.ensures.value in
    let e = simp to_z-of_z at c.times-d.ensures.value in
    let l = simp to_z-of_z at c.least_of.ensures.value in
    let g = simp to_z-of_z at c.greatest_of.ensures.value in
    let down = simp to_z-of_z at c.unit_down.ensures.value in
    let up = simp to_z-of_z at c.unit_up.ensures.value in
    simp to_z-of_z (product_is c.args.x c.args.y c.times-a.result c.times-b.result c.times-c.result c.times-d.result c.least_of.result c.greatest_of.result
    c.unit_down.result c.unit_up.result a b d e l g down up)
