use Rattle.std.proofs.Common.{rules, FitsSigned, to_z-of_z}
use mir.Syntax.{w128}
use Rattle.vcm_hardware.proofs.Floors.{four_greatest}
use Rattle.vcm_hardware.proofs.interval.greatest_of.Goals as goal

pub returns-clause-small : goal.returns-clause-small
returns-clause-small c =
    let fa : FitsSigned w128 c.args.a = search rules in
    let fb : FitsSigned w128 c.args.b = search rules in
    let fc : FitsSigned w128 c.args.c = search rules in
    let fd : FitsSigned w128 c.args.d = search rules in
    let fm : FitsSigned w128 c.max.result = search rules in
    let fn : FitsSigned w128 c.max-2.result = search rules in
    let fl : FitsSigned w128 c.max-3.result = search rules in
    let m = simp to_z-of_z at c.max.ensures.value in
    let n = simp to_z-of_z at c.max-2.ensures.value in
    let l = simp to_z-of_z at c.max-3.ensures.value in
    rw (to_z-of_z fl) (four_greatest c.args.a c.args.b c.args.c c.args.d c.max.result c.max-2.result c.max-3.result 100000000000000 c.requires.a c.requires.b c.requires.c c.requires.d m n l)
