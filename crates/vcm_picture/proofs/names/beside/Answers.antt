use Rattle.std.proofs.Common.{rules, w64, FitsSigned, to_z-of_z}
use Rattle.vcm_picture.proofs.Boxes.{found_beside}
use Rattle.vcm_picture.proofs.names.beside.Goals as goal

pub returns : goal.returns
returns c =
    let fl : FitsSigned w64 c.args.letters = search rules in
    let w = simp to_z-of_z at c.letters_wide.ensures in
    found_beside c.args.scope c.args.at c.args.letters _ c.args.taken.now _ _ c.first_free.ensures (rw c.unit.ensures at c.sides-boxes.ensures)
    (rw c.unit-2.ensures at w)
