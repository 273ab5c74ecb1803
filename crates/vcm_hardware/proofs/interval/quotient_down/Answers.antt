use Rattle.std.proofs.Common.{rules, FitsSigned, to_z-of_z}
use mir.Syntax.{w128}
use Rattle.vcm_hardware.proofs.Floors.{divided_within, divided_less}
use Rattle.vcm_hardware.proofs.interval.quotient_down.Goals as goal

pub returns-clause-less : goal.returns-clause-less
returns-clause-less c =
    let fo : FitsSigned w128 c.args.over = search rules in
    let fu : FitsSigned w128 c.args.under = search rules in
    let fq : FitsSigned w128 c.div_euclid.result = search rules in
    let value = simp to_z-of_z at c.div_euclid.ensures in
    rw (to_z-of_z fq) (divided_less c.args.over c.args.under c.div_euclid.result c.requires value)

pub returns-clause-small : goal.returns-clause-small
returns-clause-small c = λ k h.
    let fo : FitsSigned w128 c.args.over = search rules in
    let fu : FitsSigned w128 c.args.under = search rules in
    let fq : FitsSigned w128 c.div_euclid.result = search rules in
    let value = simp to_z-of_z at c.div_euclid.ensures in
    rw (to_z-of_z fq) (divided_within c.args.over c.args.under c.div_euclid.result k c.requires h value)
