use Rattle.std.proofs.Common.{◌+ℤ◌, ◌+◌, rules, arith, FitsSigned, to_z-of_z}
use Rattle.std.specs.Prelude.{unsigned_abs}
use Rattle.std.proofs.lemmas.Int.{ints}
use mir.Syntax.{w128}
use Rattle.vcm_hardware.proofs.Floors.{two_squares}
use Rattle.vcm_hardware.proofs.swing.diagonal.Goals as goal

pub returns-clause-value : goal.returns-clause-value
returns-clause-value c =
    let fa : FitsSigned w128 c.args.a = search rules in
    let fb : FitsSigned w128 c.args.b = search rules in
    let f1 : FitsSigned w128 c.square.result = search rules in
    let f2 : FitsSigned w128 c.square-2.result = search rules in
    let fs : FitsSigned w128 (c.square.result +ℤ c.square-2.result) = omega (arith, ints, c.square.ensures.small, c.square-2.ensures.small) in
    let a = simp to_z-of_z at c.square.ensures.value in
    let b = simp to_z-of_z at c.square-2.ensures.value in
    let fr : FitsSigned w128 c.root_up.result = search rules in
    let root = simp to_z-of_z at c.root_up.ensures.value in
    simp to_z-of_z (rw (a, b) at root)

pub returns-clause-small : goal.returns-clause-small
returns-clause-small c =
    let fa : FitsSigned w128 c.args.a = search rules in
    let fb : FitsSigned w128 c.args.b = search rules in
    let f1 : FitsSigned w128 c.square.result = search rules in
    let f2 : FitsSigned w128 c.square-2.result = search rules in
    let fs : FitsSigned w128 (c.square.result +ℤ c.square-2.result) = omega (arith, ints, c.square.ensures.small, c.square-2.ensures.small) in
    let a = simp to_z-of_z at c.square.ensures.value in
    let b = simp to_z-of_z at c.square-2.ensures.value in
    let least = simp to_z-of_z at c.root_up.ensures.least in
    let fr : FitsSigned w128 c.root_up.result = search rules in
    rw (to_z-of_z fr) (least (unsigned_abs c.args.a + unsigned_abs c.args.b) (rw (a, b) (two_squares c.args.a c.args.b)))
