use Rattle.std.proofs.Common.{◌≡◌, ◌*ℤ◌, rules, refl, FitsSigned, to_z-of_z}
use mir.Syntax.{w32, w128}
use Rattle.vcm_hardware.proofs.Floors.{spread_fits, spread_far, spread_small}
use Rattle.vcm_hardware.proofs.interval.spread.Goals as goal

pub returns-clause-value : goal.returns-clause-value
returns-clause-value c =
    let fx : FitsSigned w32 c.args.x = search rules in
    let fy : FitsSigned w128 c.args.y = search rules in
    let ff : FitsSigned w128 c.from.result = search rules in
    let e : c.from.result ≡ c.args.x = search rules in
    let fp : FitsSigned w128 (c.from.result *ℤ c.args.y) = rw e (spread_fits c.args.x c.args.y fx c.requires) in
    rw (to_z-of_z ff, to_z-of_z fy, to_z-of_z fp, e) refl

pub returns-clause-far : goal.returns-clause-far
returns-clause-far c =
    let fx : FitsSigned w32 c.args.x = search rules in
    let fy : FitsSigned w128 c.args.y = search rules in
    let ff : FitsSigned w128 c.from.result = search rules in
    let e : c.from.result ≡ c.args.x = search rules in
    let fp : FitsSigned w128 (c.from.result *ℤ c.args.y) = rw e (spread_fits c.args.x c.args.y fx c.requires) in
    rw (to_z-of_z ff, to_z-of_z fy, to_z-of_z fp, e) (spread_far c.args.x c.args.y fx c.requires)

pub returns-clause-small : goal.returns-clause-small
returns-clause-small c = λ n h.
    let fx : FitsSigned w32 c.args.x = search rules in
    let fy : FitsSigned w128 c.args.y = search rules in
    let ff : FitsSigned w128 c.from.result = search rules in
    let e : c.from.result ≡ c.args.x = search rules in
    let fp : FitsSigned w128 (c.from.result *ℤ c.args.y) = rw e (spread_fits c.args.x c.args.y fx c.requires) in
    rw (to_z-of_z ff, to_z-of_z fy, to_z-of_z fp, e) (spread_small c.args.x c.args.y n fx h)
