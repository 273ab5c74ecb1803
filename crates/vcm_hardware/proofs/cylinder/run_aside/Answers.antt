use Rattle.std.proofs.Common.{◌*ℤ◌, rules, refl, FitsSigned, to_z-of_z}
use mir.Syntax.{w128}
use Rattle.vcm_hardware.proofs.Floors.{aside_fits, aside_small}
use Rattle.vcm_hardware.proofs.cylinder.run_aside.Goals as goal

pub returns-clause-value : goal.returns-clause-value
returns-clause-value c =
    let fl : FitsSigned w128 c.args.length = search rules in
    let fa : FitsSigned w128 c.args.aside = search rules in
    let fp : FitsSigned w128 (c.args.length *ℤ c.args.aside) = aside_fits c.args.length c.args.aside c.requires.length c.requires.aside in
    rw (to_z-of_z fl, to_z-of_z fa, to_z-of_z fp) refl

pub returns-clause-small : goal.returns-clause-small
returns-clause-small c =
    let fl : FitsSigned w128 c.args.length = search rules in
    let fa : FitsSigned w128 c.args.aside = search rules in
    let fp : FitsSigned w128 (c.args.length *ℤ c.args.aside) = aside_fits c.args.length c.args.aside c.requires.length c.requires.aside in
    rw (to_z-of_z fl, to_z-of_z fa, to_z-of_z fp) (aside_small c.args.length c.args.aside c.requires.length c.requires.aside)
