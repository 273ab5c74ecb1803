use Rattle.std.proofs.Common.{rules, w64, FitsSigned, to_z-of_z}
use Rattle.vcm_sheet.proofs.block.put_tip.Goals as goal

pub returns : goal.returns
returns c =
    let f : FitsSigned w64 c.diameter.result = search rules in
    rw c.diameter.ensures at (simp to_z-of_z at c.put_cell.ensures)
