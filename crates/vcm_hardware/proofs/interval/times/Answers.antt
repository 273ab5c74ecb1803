use Rattle.std.proofs.Common.{◌≡◌, ◌*ℤ◌, rules, FitsSigned, to_z-of_z}
use mir.Syntax.{w128}
use Rattle.vcm_hardware.proofs.Floors.{unit_fits, unit_small}
use Rattle.vcm_hardware.proofs.interval.times.Goals as goal

pub returns-clause-small : goal.returns-clause-small
returns-clause-small c =
    let fx : FitsSigned w128 c.from.result = search rules in
    let fy : FitsSigned w128 c.from-2.result = search rules in
    let x : c.from.result ≡ c.args.x = search rules in
    let y : c.from-2.result ≡ c.args.y = search rules in
    let fp : FitsSigned w128 (c.from.result *ℤ c.from-2.result) = rw (x, y) (unit_fits c.args.x c.args.y c.requires.x c.requires.y) in
    rw (to_z-of_z fx, to_z-of_z fy, to_z-of_z fp, x, y) (unit_small c.args.x c.args.y c.requires.x c.requires.y)
