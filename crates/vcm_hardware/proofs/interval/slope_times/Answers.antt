use Rattle.std.proofs.Common.{◌*ℤ◌, rules, refl, FitsSigned, to_z-of_z}
use mir.Syntax.{w128}
use Rattle.vcm_hardware.proofs.Floors.{slope_fits, slope_far, slope_small}
use Rattle.vcm_hardware.proofs.interval.slope_times.Goals as goal

pub returns-clause-value : goal.returns-clause-value
returns-clause-value c =
    let fs : FitsSigned w128 c.args.slope = search rules in
    let fx : FitsSigned w128 c.args.x = search rules in
    let fp : FitsSigned w128 (c.args.slope *ℤ c.args.x) = slope_fits c.args.slope c.args.x c.requires.slope c.requires.far in
    rw (to_z-of_z fs, to_z-of_z fx, to_z-of_z fp) refl

pub returns-clause-far : goal.returns-clause-far
returns-clause-far c =
    let fs : FitsSigned w128 c.args.slope = search rules in
    let fx : FitsSigned w128 c.args.x = search rules in
    let fp : FitsSigned w128 (c.args.slope *ℤ c.args.x) = slope_fits c.args.slope c.args.x c.requires.slope c.requires.far in
    rw (to_z-of_z fs, to_z-of_z fx, to_z-of_z fp) (slope_far c.args.slope c.args.x c.requires.slope c.requires.far)

pub returns-clause-small : goal.returns-clause-small
returns-clause-small c = λ n h.
    let fs : FitsSigned w128 c.args.slope = search rules in
    let fx : FitsSigned w128 c.args.x = search rules in
    let fp : FitsSigned w128 (c.args.slope *ℤ c.args.x) = slope_fits c.args.slope c.args.x c.requires.slope c.requires.far in
    rw (to_z-of_z fs, to_z-of_z fx, to_z-of_z fp) (slope_small c.args.slope c.args.x n c.requires.slope h)
