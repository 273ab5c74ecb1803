use Rattle.std.proofs.Common.{rules, arith, FitsSigned, to_z-of_z}
use Rattle.std.proofs.lemmas.Int.{ints, clamps}
use mir.Syntax.{w32, w128}
use Rattle.vcm_hardware.proofs.Spans.{slab_count_is}
use Rattle.vcm_hardware.proofs.cylinder.slab_count.Goals as goal

pub spread-requires : goal.spread-requires
spread-requires c =
    let h = c.least_size-surely.ensures.small 2147483648 c.wide.ensures.small in
    omega (arith, ints, h)

pub over_up-requires-clause-under : goal.over_up-requires-clause-under
over_up-requires-clause-under c = omega (arith, ints, clamps, c.max-under.ensures.value)

pub returns-clause-value : goal.returns-clause-value
returns-clause-value c =
    let fs : FitsSigned w32 c.args.seen.now.step = search rules in
    let fl : FitsSigned w128 c.least_size-surely.result = search rules in
    let fb : FitsSigned w128 c.spread.result = search rules in
    let fu : FitsSigned w128 c.max-under.result = search rules in
    let fd : FitsSigned w128 c.length_of.result = search rules in
    let fo : FitsSigned w128 c.aside.result = search rules in
    let fr : FitsSigned w128 c.run_aside.result = search rules in
    let eb = simp to_z-of_z at c.spread.ensures.value in
    let eu = simp to_z-of_z at c.max-under.ensures.value in
    let er = simp to_z-of_z at c.run_aside.ensures.value in
    let en = simp to_z-of_z at c.over_up.ensures.value in
    slab_count_is c.args.seen.now c.args.main c.args.range c.towards.result c.wide.result c.length_of.result c.least_size-surely.result c.run_aside.result
    c.spread.result c.aside.result c.max-under.result c.over_up.result c.towards.ensures c.wide.ensures.value c.length_of.ensures.value c.least_size-surely.ensures.value eb eu c.aside.ensures.value er en
