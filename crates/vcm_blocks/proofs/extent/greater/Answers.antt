use Rattle.std.proofs.Common.{rules, ◌≡◌, refl, w64, FitsSigned, to_z-of_z}
use Rattle.std.specs.Int.{int_max}
use Rattle.vcm_num.specs.Point.{coordinate}
use Rattle.vcm_blocks.proofs.extent.greater.Goals as goal

pub returns : goal.returns
returns c =
    let a0 : FitsSigned w64 (coordinate c.args.first 0) = search rules in
    let a1 : FitsSigned w64 (coordinate c.args.first 1) = search rules in
    let a2 : FitsSigned w64 (coordinate c.args.first 2) = search rules in
    let b0 : FitsSigned w64 (coordinate c.args.second 0) = search rules in
    let b1 : FitsSigned w64 (coordinate c.args.second 1) = search rules in
    let b2 : FitsSigned w64 (coordinate c.args.second 2) = search rules in
    let f0 : FitsSigned w64 c.max.result = search rules in
    let f1 : FitsSigned w64 c.max-2.result = search rules in
    let f2 : FitsSigned w64 c.max-3.result = search rules in
    let e0 : c.max.result ≡ int_max (coordinate c.args.first 0) (coordinate c.args.second 0) = rw (to_z-of_z a0, to_z-of_z b0) at c.max.ensures.value in
    let e1 : c.max-2.result ≡ int_max (coordinate c.args.first 1) (coordinate c.args.second 1) = rw (to_z-of_z a1, to_z-of_z b1) at c.max-2.ensures.value in
    let e2 : c.max-3.result ≡ int_max (coordinate c.args.first 2) (coordinate c.args.second 2) = rw (to_z-of_z a2, to_z-of_z b2) at c.max-3.ensures.value in
    rw (to_z-of_z f0, to_z-of_z f1, to_z-of_z f2, e0, e1, e2) refl
