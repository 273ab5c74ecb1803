use Rattle.std.proofs.Common.{◌+ℤ◌, rules, arith, FitsSigned, to_z-of_z}
use Rattle.std.specs.Prelude.{pos, int_div}
use Rattle.std.proofs.lemmas.Int.{ints}
use mir.Syntax.{w32}
use Rattle.vcm_hardware.proofs.Probes.{turned_by, sum_same}
use Rattle.vcm_hardware.proofs.boxes.turning_of.Goals as goal

pub returns : goal.returns
returns c =
    let f1 : FitsSigned w32 c.args.choice.now.a = search rules in
    let f2 : FitsSigned w32 c.args.choice.now.b = search rules in
    let f3 : FitsSigned w32 c.args.turn = search rules in
    let g1 : FitsSigned w32 c.steps_in.result = search rules in
    let g2 : FitsSigned w32 c.steps_in-2.result = search rules in
    let g3 : FitsSigned w32 c.steps_in-3.result = search rules in
    let gs : FitsSigned w32 (c.steps_in-2.result +ℤ c.steps_in-3.result) = omega (arith, ints, c.steps_in-2.ensures.small, c.steps_in-3.ensures.small) in
    let a = simp to_z-of_z at c.steps_in.ensures.value in
    let b = simp to_z-of_z at c.steps_in-2.ensures.value in
    let d = simp to_z-of_z at c.steps_in-3.ensures.value in
    let sum = sum_same c.steps_in-2.result c.steps_in-3.result (int_div c.args.choice.now.b (pos 7500)) (int_div c.args.turn (pos 7500)) b d in
    turned_by c.turning_by.result c.steps_in.result (c.steps_in-2.result +ℤ c.steps_in-3.result) (int_div c.args.choice.now.a (pos 7500))
    (int_div c.args.choice.now.b (pos 7500) +ℤ int_div c.args.turn (pos 7500)) (simp to_z-of_z at c.turning_by.ensures) a sum
