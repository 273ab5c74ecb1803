use Rattle.std.proofs.Common.{pos, ◌+ℤ◌, rules, w64, FitsSigned, to_z-of_z}
use mir.Syntax.{w128}
use Rattle.vcm_hardware.proofs.Middles.{sum_fits, more_fits, half_fits}
use Rattle.vcm_hardware.proofs.boxes.rounded.Goals as goal

pub returns : goal.returns
returns c =
    let fl : FitsSigned w128 c.args.low = search rules in
    let fh : FitsSigned w128 c.args.high = search rules in
    let g1 : FitsSigned w128 (c.args.low +ℤ c.args.high) = sum_fits c.args.low c.args.high c.requires.low c.requires.high in
    let g2 : FitsSigned w128 (c.args.low +ℤ c.args.high +ℤ pos 10000000) = more_fits c.args.low c.args.high c.requires.low c.requires.high in
    let ff : FitsSigned w128 c.floor_half.result = search rules in
    let small = simp to_z-of_z at c.floor_half.ensures.small in
    let g3 : FitsSigned w64 c.floor_half.result = half_fits c.args.low c.args.high c.floor_half.result c.requires.low c.requires.high small in
    let v = simp to_z-of_z at c.floor_half.ensures.value in
    simp to_z-of_z v
