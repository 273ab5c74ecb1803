use Rattle.std.proofs.Common.{◌-ℤ◌, rules, FitsSigned, to_z-of_z}
use mir.Syntax.{w32, w128}
use Rattle.vcm_hardware.proofs.Floors.{scaled_is, scaled_within}
use Rattle.vcm_hardware.proofs.interval.scaled.Goals as goal

pub returns-clause-value : goal.returns-clause-value
returns-clause-value c =
    let fo : FitsSigned w32 c.args.from = search rules in
    let ft : FitsSigned w32 c.args.to = search rules in
    let fx : FitsSigned w32 c.args.x.low = search rules in
    let fy : FitsSigned w32 c.args.x.high = search rules in
    let fw : FitsSigned w128 c.apart-way.result = search rules in
    let fa : FitsSigned w128 c.way_times-a.result = search rules in
    let fb : FitsSigned w128 c.way_times-b.result = search rules in
    let fm : FitsSigned w128 c.min.result = search rules in
    let fn : FitsSigned w128 c.max.result = search rules in
    let d = simp to_z-of_z at c.apart-way.ensures.value in
    let a = simp to_z-of_z at c.way_times-a.ensures.value in
    let b = simp to_z-of_z at c.way_times-b.ensures.value in
    let m = simp to_z-of_z at c.min.ensures.value in
    let n = simp to_z-of_z at c.max.ensures.value in
    simp to_z-of_z (scaled_is (c.args.to -ℤ c.args.from) c.args.x c.apart-way.result c.way_times-a.result c.way_times-b.result c.min.result c.max.result d a b m n)

pub returns-clause-small : goal.returns-clause-small
returns-clause-small c =
    let fa : FitsSigned w128 c.way_times-a.result = search rules in
    let fb : FitsSigned w128 c.way_times-b.result = search rules in
    let fm : FitsSigned w128 c.min.result = search rules in
    let fn : FitsSigned w128 c.max.result = search rules in
    let m = simp to_z-of_z at c.min.ensures.value in
    let n = simp to_z-of_z at c.max.ensures.value in
    simp to_z-of_z (scaled_within c.way_times-a.result c.way_times-b.result c.min.result c.max.result 9223372036854775808 c.way_times-a.ensures.small c.way_times-b.ensures.small m n)
