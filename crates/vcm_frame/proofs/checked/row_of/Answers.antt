use Rattle.std.proofs.Common.{rules, to_z-of_z, w64, FitsSigned, refl}
use Rattle.vcm_num.specs.Point.{coordinate}
use Rattle.vcm_frame.proofs.Rows.{plus_x, plus_y, plus_z, minus_x, minus_y, minus_z}
use Rattle.vcm_frame.proofs.checked.row_of.Goals as goal

pub returns-in-PlusX : goal.returns-in-PlusX
returns-in-PlusX c =
    let fm : FitsSigned w64 c.args.more = search rules in
    let fx : FitsSigned w64 (coordinate c.args.at 0) = search rules in
    rw (c.in-PlusX.is, c.add.ensures, to_z-of_z fm, to_z-of_z fx) (plus_x (coordinate c.args.at) c.args.more _ refl)

pub returns-in-MinusX : goal.returns-in-MinusX
returns-in-MinusX c =
    let fm : FitsSigned w64 c.args.more = search rules in
    let fx : FitsSigned w64 (coordinate c.args.at 0) = search rules in
    rw (c.in-MinusX.is, c.sub.ensures, to_z-of_z fm, to_z-of_z fx) (minus_x (coordinate c.args.at) c.args.more _ refl)

pub returns-in-PlusY : goal.returns-in-PlusY
returns-in-PlusY c =
    let fm : FitsSigned w64 c.args.more = search rules in
    let fx : FitsSigned w64 (coordinate c.args.at 1) = search rules in
    rw (c.in-PlusY.is, c.add-in-PlusY.ensures, to_z-of_z fm, to_z-of_z fx) (plus_y (coordinate c.args.at) c.args.more _ refl)

pub returns-in-MinusY : goal.returns-in-MinusY
returns-in-MinusY c =
    let fm : FitsSigned w64 c.args.more = search rules in
    let fx : FitsSigned w64 (coordinate c.args.at 1) = search rules in
    rw (c.in-MinusY.is, c.sub-in-MinusY.ensures, to_z-of_z fm, to_z-of_z fx) (minus_y (coordinate c.args.at) c.args.more _ refl)

pub returns-in-PlusZ : goal.returns-in-PlusZ
returns-in-PlusZ c =
    let fm : FitsSigned w64 c.args.more = search rules in
    let fx : FitsSigned w64 (coordinate c.args.at 2) = search rules in
    rw (c.in-PlusZ.is, c.add-in-PlusZ.ensures, to_z-of_z fm, to_z-of_z fx) (plus_z (coordinate c.args.at) c.args.more _ refl)

pub returns-in-MinusZ : goal.returns-in-MinusZ
returns-in-MinusZ c =
    let fm : FitsSigned w64 c.args.more = search rules in
    let fx : FitsSigned w64 (coordinate c.args.at 2) = search rules in
    rw (c.in-MinusZ.is, c.sub-in-MinusZ.ensures, to_z-of_z fm, to_z-of_z fx) (minus_z (coordinate c.args.at) c.args.more _ refl)
