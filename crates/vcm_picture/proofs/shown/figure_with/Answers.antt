use Rattle.std.proofs.Common.{rules, w64, FitsSigned, to_z-of_z}
use Rattle.vcm_picture.proofs.Boxes.{unless_small}
use Rattle.vcm_picture.proofs.shown.figure_with.Goals as goal

pub returns : goal.returns
returns c =
    let fd : FitsSigned w64 c.args.digits = search rules in
    let fs : FitsSigned w64 c.args.size = search rules in
    let n = simp to_z-of_z at c.new.ensures in
    let e = simp to_z-of_z at c.figure_in.ensures in
    unless_small c.args.size _ _ _ (simp to_z-of_z at c.if-size-lt1.false) (rw n at e)
