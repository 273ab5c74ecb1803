use Rattle.std.proofs.Common.{◌≡◌, ◌*ℤ◌, rules, refl, FitsSigned, to_z-of_z}
use mir.Syntax.{w32, w128}
use Rattle.vcm_hardware.proofs.Floors.{way_fits, way_small}
use Rattle.vcm_hardware.proofs.interval.way_times.Goals as goal

pub returns-clause-value : goal.returns-clause-value
returns-clause-value c =
    let fx : FitsSigned w32 c.args.x = search rules in
    let fw : FitsSigned w128 c.args.way = search rules in
    let ff : FitsSigned w128 c.from.result = search rules in
    let e : c.from.result ≡ c.args.x = search rules in
    let fp : FitsSigned w128 (c.args.way *ℤ c.from.result) = rw e (way_fits c.args.way c.args.x c.requires fx) in
    rw (to_z-of_z ff, to_z-of_z fw, to_z-of_z fp, e) refl

pub returns-clause-small : goal.returns-clause-small
returns-clause-small c =
    let fx : FitsSigned w32 c.args.x = search rules in
    let fw : FitsSigned w128 c.args.way = search rules in
    let ff : FitsSigned w128 c.from.result = search rules in
    let e : c.from.result ≡ c.args.x = search rules in
    let fp : FitsSigned w128 (c.args.way *ℤ c.from.result) = rw e (way_fits c.args.way c.args.x c.requires fx) in
    rw (to_z-of_z ff, to_z-of_z fw, to_z-of_z fp, e) (way_small c.args.way c.args.x c.requires fx)
