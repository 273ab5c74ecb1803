use Rattle.std.proofs.Common.{rules, w64, FitsSigned, to_z-of_z}
use Rattle.std.specs.Prelude.{codes}
use Rattle.std.specs.Fmt.{signed_decimal}
use Rattle.vcm_num.specs.Point.{coordinate}
use Rattle.vcm_hardware.proofs.Appended.{pairs}
use Rattle.vcm_hardware.proofs.pieces.put_point.Goals as goal

pub returns : goal.returns
returns c =
    let p = c.args.at in
    let fx : FitsSigned w64 (coordinate p 0) = search rules in
    let fy : FitsSigned w64 (coordinate p 1) = search rules in
    let fz : FitsSigned w64 (coordinate p 2) = search rules in
    pairs _ _ _ _ _ _ (codes "[") (signed_decimal (coordinate p 0)) (codes ", ") (signed_decimal (coordinate p 1)) (codes ", ") (signed_decimal (coordinate p 2)) (codes "]")
    (simp to_z-of_z at c.in_ok-put_behind.ensures) (simp to_z-of_z at c.in_ok-put_behind-2.ensures) (simp to_z-of_z at c.in_ok-put_behind-3.ensures) c.put_bytes.ensures
