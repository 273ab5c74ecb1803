use Rattle.std.proofs.Common.{rules, to_z-of_z, w64, FitsSigned}
use Rattle.vcm_num.specs.Point.{coordinate}
use Rattle.vcm_frame.proofs.Rows.{way_x, way_y, way_z, way_back_x, way_back_y, way_back_z}
use Rattle.vcm_frame.proofs.checked.row_between.Goals as goal

pub returns-in-PlusX : goal.returns-in-PlusX
returns-in-PlusX c =
    let ff : FitsSigned w64 (coordinate c.args.from 0) = search rules in
    let ft : FitsSigned w64 (coordinate c.args.to 0) = search rules in
    rw (c.in-PlusX.is, c.sub.ensures, to_z-of_z ff, to_z-of_z ft) (way_x (coordinate c.args.from) (coordinate c.args.to))

pub returns-in-MinusX : goal.returns-in-MinusX
returns-in-MinusX c =
    let ff : FitsSigned w64 (coordinate c.args.from 0) = search rules in
    let ft : FitsSigned w64 (coordinate c.args.to 0) = search rules in
    rw (c.in-MinusX.is, c.sub-in-MinusX.ensures, to_z-of_z ff, to_z-of_z ft) (way_back_x (coordinate c.args.from) (coordinate c.args.to))

pub returns-in-PlusY : goal.returns-in-PlusY
returns-in-PlusY c =
    let ff : FitsSigned w64 (coordinate c.args.from 1) = search rules in
    let ft : FitsSigned w64 (coordinate c.args.to 1) = search rules in
    rw (c.in-PlusY.is, c.sub-in-PlusY.ensures, to_z-of_z ff, to_z-of_z ft) (way_y (coordinate c.args.from) (coordinate c.args.to))

pub returns-in-MinusY : goal.returns-in-MinusY
returns-in-MinusY c =
    let ff : FitsSigned w64 (coordinate c.args.from 1) = search rules in
    let ft : FitsSigned w64 (coordinate c.args.to 1) = search rules in
    rw (c.in-MinusY.is, c.sub-in-MinusY.ensures, to_z-of_z ff, to_z-of_z ft) (way_back_y (coordinate c.args.from) (coordinate c.args.to))

pub returns-in-PlusZ : goal.returns-in-PlusZ
returns-in-PlusZ c =
    let ff : FitsSigned w64 (coordinate c.args.from 2) = search rules in
    let ft : FitsSigned w64 (coordinate c.args.to 2) = search rules in
    rw (c.in-PlusZ.is, c.sub-in-PlusZ.ensures, to_z-of_z ff, to_z-of_z ft) (way_z (coordinate c.args.from) (coordinate c.args.to))

pub returns-in-MinusZ : goal.returns-in-MinusZ
returns-in-MinusZ c =
    let ff : FitsSigned w64 (coordinate c.args.from 2) = search rules in
    let ft : FitsSigned w64 (coordinate c.args.to 2) = search rules in
    rw (c.in-MinusZ.is, c.sub-in-MinusZ.ensures, to_z-of_z ff, to_z-of_z ft) (way_back_z (coordinate c.args.from) (coordinate c.args.to))
