use Rattle.std.proofs.Common.{◌+ℤ◌, ◌+◌, rules, arith, FitsSigned, to_z-of_z}
use Rattle.std.specs.Prelude.{unsigned_abs}
use Rattle.std.proofs.lemmas.Int.{ints}
use mir.Syntax.{w128}
use Rattle.vcm_hardware.proofs.Floors.{three_squares}
use Rattle.vcm_hardware.proofs.swing.distance.Goals as goal

pub returns-clause-value : goal.returns-clause-value
returns-clause-value c =
    let fx : FitsSigned w128 c.args.x = search rules in
    let fy : FitsSigned w128 c.args.y = search rules in
    let fz : FitsSigned w128 c.args.z = search rules in
    let f1 : FitsSigned w128 c.square.result = search rules in
    let f2 : FitsSigned w128 c.square-2.result = search rules in
    let f3 : FitsSigned w128 c.square-3.result = search rules in
    let p = c.square.ensures.small in
    let q = c.square-2.ensures.small in
    let r = c.square-3.ensures.small in
    let fs : FitsSigned w128 (c.square.result +ℤ c.square-2.result) = omega (arith, ints, p, q) in
    let ft : FitsSigned w128 (c.square.result +ℤ c.square-2.result +ℤ c.square-3.result) = omega (arith, ints, p, q, r) in
    let x = simp to_z-of_z at c.square.ensures.value in
    let y = simp to_z-of_z at c.square-2.ensures.value in
    let z = simp to_z-of_z at c.square-3.ensures.value in
    let fr : FitsSigned w128 c.root_up.result = search rules in
    let root = simp to_z-of_z at c.root_up.ensures.value in
    simp to_z-of_z (rw (x, y, z) at root)

pub returns-clause-small : goal.returns-clause-small
returns-clause-small c =
    let fx : FitsSigned w128 c.args.x = search rules in
    let fy : FitsSigned w128 c.args.y = search rules in
    let fz : FitsSigned w128 c.args.z = search rules in
    let f1 : FitsSigned w128 c.square.result = search rules in
    let f2 : FitsSigned w128 c.square-2.result = search rules in
    let f3 : FitsSigned w128 c.square-3.result = search rules in
    let p = c.square.ensures.small in
    let q = c.square-2.ensures.small in
    let r = c.square-3.ensures.small in
    let fs : FitsSigned w128 (c.square.result +ℤ c.square-2.result) = omega (arith, ints, p, q) in
    let ft : FitsSigned w128 (c.square.result +ℤ c.square-2.result +ℤ c.square-3.result) = omega (arith, ints, p, q, r) in
    let x = simp to_z-of_z at c.square.ensures.value in
    let y = simp to_z-of_z at c.square-2.ensures.value in
    let z = simp to_z-of_z at c.square-3.ensures.value in
    let least = simp to_z-of_z at c.root_up.ensures.least in
    let fr : FitsSigned w128 c.root_up.result = search rules in
    rw (to_z-of_z fr) (least (unsigned_abs c.args.x + unsigned_abs c.args.y + unsigned_abs c.args.z) (rw (x, y, z) (three_squares c.args.x c.args.y c.args.z)))
