use Rattle.std.proofs.Common.{◌*ℤ◌, rules, FitsSigned, to_z-of_z}
use mir.Syntax.{w128}
use Rattle.vcm_hardware.proofs.Floors.{share_within, share_fits}
use Rattle.vcm_hardware.proofs.interval.share.Goals as goal

pub returns-clause-small : goal.returns-clause-small
returns-clause-small c =
    let fi : FitsSigned w128 c.signed.result = search rules in
    let fn : FitsSigned w128 c.signed-2.result = search rules in
    let fl : FitsSigned w128 c.args.length = search rules in
    let fq : FitsSigned w128 c.quotient_down.result = search rules in
    let fr : FitsSigned w128 (c.signed.result *ℤ c.args.length) = share_fits c.signed.result c.args.length c.signed.ensures.small c.requires.length in
    let q = simp to_z-of_z at c.quotient_down.ensures.small in
    rw (to_z-of_z fq) (q 5538318189412 (rw (c.signed.ensures.value, c.signed-2.ensures.value) (share_within c.args.of_them c.args.parts c.args.length c.requires.within c.requires.length)))
