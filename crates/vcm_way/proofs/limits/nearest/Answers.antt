use Rattle.std.proofs.Common.{rules, refl, w64, FitsSigned, to_z-of_z}
use Rattle.vcm_num.specs.Point.{coordinate}
use Rattle.vcm_way.proofs.limits.nearest.Goals as goal

pub returns : goal.returns
returns c =
    let fx : FitsSigned w64 (coordinate c.args.to 0) = search rules in
    let fy : FitsSigned w64 (coordinate c.args.to 1) = search rules in
    let fz : FitsSigned w64 (coordinate c.args.to 2) = search rules in
    let fa : FitsSigned w64 (coordinate c.args.bounds.now.low 0) = search rules in
    let fb : FitsSigned w64 (coordinate c.args.bounds.now.low 1) = search rules in
    let fc : FitsSigned w64 (coordinate c.args.bounds.now.low 2) = search rules in
    let fu : FitsSigned w64 (coordinate c.args.bounds.now.high 0) = search rules in
    let fv : FitsSigned w64 (coordinate c.args.bounds.now.high 1) = search rules in
    let fw : FitsSigned w64 (coordinate c.args.bounds.now.high 2) = search rules in
    let gx : FitsSigned w64 c.clipped.result = search rules in
    let gy : FitsSigned w64 c.clipped-2.result = search rules in
    let gz : FitsSigned w64 c.clipped-3.result = search rules in
    rw (
      c.new.ensures,
      to_z-of_z gx,
      to_z-of_z gy,
      to_z-of_z gz,
      c.clipped.ensures,
      c.clipped-2.ensures,
      c.clipped-3.ensures,
      to_z-of_z fx,
      to_z-of_z fy,
      to_z-of_z fz,
      to_z-of_z fa,
      to_z-of_z fb,
      to_z-of_z fc,
      to_z-of_z fu,
      to_z-of_z fv,
      to_z-of_z fw,
    ) refl
