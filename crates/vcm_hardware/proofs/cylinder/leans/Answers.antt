use Rattle.std.proofs.Common.{◌+ℤ◌, rules, arith, FitsSigned, to_z-of_z}
use Rattle.std.proofs.lemmas.Int.{ints}
use mir.Syntax.{w64, w128}
use Rattle.vcm_hardware.proofs.Leans.{low_fits, high_fits, high_small, leans_is}
use Rattle.vcm_hardware.proofs.cylinder.leans.Goals as goal

pub overflow_add-leaning : goal.overflow_add-leaning
overflow_add-leaning c =
    let fa : FitsSigned w128 c.lean_times-a.result = search rules in
    let fb : FitsSigned w128 c.lean_times-b.result = search rules in
    let fo : FitsSigned w128 c.args.leaning.low = search rules in
    let fm : FitsSigned w128 c.min.result = search rules in
    let m = simp to_z-of_z at c.min.ensures.value in
    let f : FitsSigned w128 (c.args.leaning.low +ℤ c.min.result) = low_fits c.args.leaning c.lean_times-a.result c.lean_times-b.result c.min.result c.requires c.lean_times-a.ensures.small c.lean_times-b.ensures.small m in
    simp to_z-of_z f

pub overflow_add-leaning-2 : goal.overflow_add-leaning-2
overflow_add-leaning-2 c =
    let fa : FitsSigned w128 c.lean_times-a.result = search rules in
    let fb : FitsSigned w128 c.lean_times-b.result = search rules in
    let fp : FitsSigned w128 c.args.leaning.high = search rules in
    let fk : FitsSigned w128 c.max.result = search rules in
    let k = simp to_z-of_z at c.max.ensures.value in
    let f : FitsSigned w128 (c.args.leaning.high +ℤ c.max.result) = high_fits c.args.leaning c.lean_times-a.result c.lean_times-b.result c.max.result c.requires c.lean_times-a.ensures.small c.lean_times-b.ensures.small k in
    simp to_z-of_z f

pub ceil_one-requires : goal.ceil_one-requires
ceil_one-requires c =
    let fa : FitsSigned w128 c.lean_times-a.result = search rules in
    let fb : FitsSigned w128 c.lean_times-b.result = search rules in
    let fp : FitsSigned w128 c.args.leaning.high = search rules in
    let fk : FitsSigned w128 c.max.result = search rules in
    let k = simp to_z-of_z at c.max.ensures.value in
    let h = high_small c.args.leaning c.lean_times-a.result c.lean_times-b.result c.max.result c.requires c.lean_times-a.ensures.small c.lean_times-b.ensures.small k in
    let f : FitsSigned w128 (c.args.leaning.high +ℤ c.max.result) = high_fits c.args.leaning c.lean_times-a.result c.lean_times-b.result c.max.result c.requires c.lean_times-a.ensures.small c.lean_times-b.ensures.small k in
    omega (arith, ints, h, f)

pub returns : goal.returns
returns c =
    let fz : FitsSigned w64 c.args.z.low = search rules in
    let fy : FitsSigned w64 c.args.z.high = search rules in
    let fs : FitsSigned w128 c.args.leaning.slope = search rules in
    let fo : FitsSigned w128 c.args.leaning.low = search rules in
    let fp : FitsSigned w128 c.args.leaning.high = search rules in
    let fa : FitsSigned w128 c.lean_times-a.result = search rules in
    let fb : FitsSigned w128 c.lean_times-b.result = search rules in
    let fm : FitsSigned w128 c.min.result = search rules in
    let fk : FitsSigned w128 c.max.result = search rules in
    let fl : FitsSigned w128 c.floor_one.result = search rules in
    let fh : FitsSigned w128 c.ceil_one.result = search rules in
    let a = simp to_z-of_z at c.lean_times-a.ensures.value in
    let b = simp to_z-of_z at c.lean_times-b.ensures.value in
    let m = simp to_z-of_z at c.min.ensures.value in
    let k = simp to_z-of_z at c.max.ensures.value in
    let f1 : FitsSigned w128 (c.args.leaning.low +ℤ c.min.result) = low_fits c.args.leaning c.lean_times-a.result c.lean_times-b.result c.min.result c.requires c.lean_times-a.ensures.small c.lean_times-b.ensures.small m in
    let f2 : FitsSigned w128 (c.args.leaning.high +ℤ c.max.result) = high_fits c.args.leaning c.lean_times-a.result c.lean_times-b.result c.max.result c.requires c.lean_times-a.ensures.small c.lean_times-b.ensures.small k in
    let low = simp to_z-of_z at c.floor_one.ensures.value in
    let high = simp to_z-of_z at c.ceil_one.ensures.value in
    simp to_z-of_z (leans_is c.args.leaning c.args.z c.lean_times-a.result c.lean_times-b.result c.min.result c.max.result c.floor_one.result c.ceil_one.result a b m k low high)
