use Rattle.std.proofs.Common.{◌≡◌, ◌+ℤ◌, rules, arith, w32, w64, FitsSigned, to_z-of_z}
use Rattle.std.proofs.lemmas.Int.{ints}
use mir.Syntax.{w128}
use Rattle.vcm_hardware.proofs.Probes.{sum_same}
use Rattle.vcm_hardware.specs.Intervals.{ceil_one}
use Rattle.vcm_hardware.proofs.boxes.head_high.Goals as goal

pub returns : goal.returns
returns c =
    let fl : FitsSigned w128 c.args.high = search rules in
    let fb : FitsSigned w32 c.args.by = search rules in
    let ff : FitsSigned w128 c.ceil_one.result = search rules in
    let fr : FitsSigned w128 c.from.result = search rules in
    let e : c.from.result ≡ c.args.by = search rules in
    let small = simp to_z-of_z at c.ceil_one.ensures.small in
    let g1 : FitsSigned w128 (c.ceil_one.result +ℤ c.from.result) = omega (arith, ints, small, c.requires) in
    let g2 : FitsSigned w64 (c.ceil_one.result +ℤ c.from.result) = omega (arith, ints, small, c.requires) in
    let v = simp to_z-of_z at c.ceil_one.ensures.value in
    simp to_z-of_z (sum_same c.ceil_one.result c.from.result (ceil_one c.args.high) c.args.by v e)
