use Rattle.std.proofs.Common.{◌≡◌, rules, FitsSigned, to_z-of_z}
use mir.Syntax.{w128}
use Rattle.vcm_hardware.specs.Intervals.{middle, size}
use Rattle.vcm_hardware.proofs.Axes.{axis_is}
use Rattle.vcm_hardware.proofs.cylinder.main_axis.Goals as goal

pub returns : goal.returns
returns c =
    let d = c.args.direction.now in
    let f1 : FitsSigned w128 c.middle.result = search rules in
    let f2 : FitsSigned w128 c.middle-2.result = search rules in
    let f3 : FitsSigned w128 c.middle-3.result = search rules in
    let g1 : FitsSigned w128 c.size-x.result = search rules in
    let g2 : FitsSigned w128 c.size-y.result = search rules in
    let g3 : FitsSigned w128 c.size-z.result = search rules in
    let a = simp to_z-of_z at c.size-x.ensures in
    let b = simp to_z-of_z at c.size-y.ensures in
    let e = simp to_z-of_z at c.size-z.ensures in
    let x : c.size-x.result ≡ size (middle d.x) = rw c.middle.ensures.value at a in
    let y : c.size-y.result ≡ size (middle d.y) = rw c.middle-2.ensures.value at b in
    let z : c.size-z.result ≡ size (middle d.z) = rw c.middle-3.ensures.value at e in
    axis_is d c.size-x.result c.size-y.result c.size-z.result c.greatest_axis.result x y z (simp to_z-of_z at c.greatest_axis.ensures)
