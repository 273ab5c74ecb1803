use Rattle.std.proofs.Common.{rules, w64, FitsSigned, to_z-of_z}
use Rattle.std.specs.Prelude.{codes}
use Rattle.vcm_num.specs.Point.{coordinate}
use Rattle.vcm_num.specs.Texts.{thousandths}
use Rattle.vcm_svg.proofs.Appended.{five}
use Rattle.vcm_svg.proofs.pieces.put_point.Goals as goal

pub returns : goal.returns
returns c =
    let p = c.args.at in
    let fx : FitsSigned w64 (coordinate p 0) = search rules in
    let fy : FitsSigned w64 (coordinate p 1) = search rules in
    let fz : FitsSigned w64 (coordinate p 2) = search rules in
    five _ _ _ _ _ _ _ (thousandths (coordinate p 0)) (codes " ") (thousandths (coordinate p 1)) (codes " ") (thousandths (coordinate p 2))
    (simp to_z-of_z at c.in_ok-write_thousandths.ensures.ok) c.in_ok-put_bytes.ensures (simp to_z-of_z at c.in_ok-write_thousandths-2.ensures.ok)
    c.in_ok-put_bytes-2.ensures (simp to_z-of_z at c.write_thousandths-3.ensures.ok)
