use Rattle.std.proofs.Common.{rules, arith, FitsSigned, to_z-of_z}
use mir.Syntax.{w128}
use Rattle.vcm_hardware.proofs.Floors.{least_within, greatest_within, greatest_fits}
use Rattle.vcm_hardware.proofs.interval.across.Goals as goal

pub ceil_one-requires : goal.ceil_one-requires
ceil_one-requires c =
    let fa : FitsSigned w128 c.slope_times-a.result = search rules in
    let fb : FitsSigned w128 c.slope_times-b.result = search rules in
    let fn : FitsSigned w128 c.max.result = search rules in
    let n = simp to_z-of_z at c.max.ensures.value in
    let small = greatest_fits c.slope_times-a.result c.slope_times-b.result c.max.result 594211218856982559621695738084327424 c.slope_times-a.ensures.far c.slope_times-b.ensures.far n in
    rw (to_z-of_z fn) (omega (arith, small))

pub returns-clause-small : goal.returns-clause-small
returns-clause-small c =
    let fa : FitsSigned w128 c.slope_times-a.result = search rules in
    let fb : FitsSigned w128 c.slope_times-b.result = search rules in
    let fm : FitsSigned w128 c.min.result = search rules in
    let fn : FitsSigned w128 c.max.result = search rules in
    let fl : FitsSigned w128 c.floor_one.result = search rules in
    let fh : FitsSigned w128 c.ceil_one.result = search rules in
    let m = simp to_z-of_z at c.min.ensures.value in
    let n = simp to_z-of_z at c.max.ensures.value in
    let lo = simp to_z-of_z at c.floor_one.ensures.small in
    let hi = simp to_z-of_z at c.ceil_one.ensures.small in
    record {
      low = rw (to_z-of_z fl) (least_within c.slope_times-a.result c.slope_times-b.result c.min.result c.floor_one.result _ _ c.slope_times-a.ensures.far c.slope_times-b.ensures.far m lo (omega arith));
      high = rw (to_z-of_z fh) (greatest_within c.slope_times-a.result c.slope_times-b.result c.max.result c.ceil_one.result _ _ c.slope_times-a.ensures.far c.slope_times-b.ensures.far n hi (omega arith));
    }

pub returns-clause-close : goal.returns-clause-close
returns-clause-close c = λ h.
    let f1 : FitsSigned w128 c.args.x.low = search rules in
    let f2 : FitsSigned w128 c.args.x.high = search rules in
    let fa : FitsSigned w128 c.slope_times-a.result = search rules in
    let fb : FitsSigned w128 c.slope_times-b.result = search rules in
    let fm : FitsSigned w128 c.min.result = search rules in
    let fn : FitsSigned w128 c.max.result = search rules in
    let fl : FitsSigned w128 c.floor_one.result = search rules in
    let fh : FitsSigned w128 c.ceil_one.result = search rules in
    let small = simp to_z-of_z at c.slope_times-a.ensures.small in
    let small2 = simp to_z-of_z at c.slope_times-b.ensures.small in
    let p = small 2147483648 h.low in
    let q = small2 2147483648 h.high in
    let m = simp to_z-of_z at c.min.ensures.value in
    let n = simp to_z-of_z at c.max.ensures.value in
    let lo = simp to_z-of_z at c.floor_one.ensures.small in
    let hi = simp to_z-of_z at c.ceil_one.ensures.small in
    record {
      low = rw (to_z-of_z fl) (least_within c.slope_times-a.result c.slope_times-b.result c.min.result c.floor_one.result _ _ p q m lo (omega arith));
      high = rw (to_z-of_z fh) (greatest_within c.slope_times-a.result c.slope_times-b.result c.max.result c.ceil_one.result _ _ p q n hi (omega arith));
    }
