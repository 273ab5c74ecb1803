use Rattle.std.proofs.Common.{◌≡◌, ◌*ℤ◌, rules, refl, FitsSigned, to_z-of_z}
use mir.Syntax.{w64, w128}
use Rattle.vcm_hardware.proofs.Leans.{lean_fits, lean_small}
use Rattle.vcm_hardware.proofs.cylinder.lean_times.Goals as goal

pub returns-clause-value : goal.returns-clause-value
returns-clause-value c =
    let fz : FitsSigned w64 c.args.z = search rules in
    let fs : FitsSigned w128 c.args.slope = search rules in
    let ff : FitsSigned w128 c.from.result = search rules in
    let e : c.from.result ≡ c.args.z = search rules in
    let fp : FitsSigned w128 (c.args.slope *ℤ c.from.result) = rw e (lean_fits c.args.slope c.args.z c.requires fz) in
    rw (to_z-of_z ff, to_z-of_z fs, to_z-of_z fp, e) refl

pub returns-clause-small : goal.returns-clause-small
returns-clause-small c =
    let fz : FitsSigned w64 c.args.z = search rules in
    let fs : FitsSigned w128 c.args.slope = search rules in
    let ff : FitsSigned w128 c.from.result = search rules in
    let e : c.from.result ≡ c.args.z = search rules in
    let fp : FitsSigned w128 (c.args.slope *ℤ c.from.result) = rw e (lean_fits c.args.slope c.args.z c.requires fz) in
    rw (to_z-of_z ff, to_z-of_z fs, to_z-of_z fp, e) (lean_small c.args.slope c.args.z c.requires fz)
