use Rattle.std.proofs.Common.{◌∷◌, [], ◌++◌}
use Rattle.std.specs.Prelude.{codes}
use Rattle.vcm_sheet.specs.Sayings.{say}
use Rattle.vcm_sheet.proofs.Saying.{adds_then}
use Rattle.vcm_sheet.proofs.rows.put_measured_head.Goals as goal

pub returns : goal.returns
returns c =
    let r = c.put_cell-3.result in
    let place = say (codes "in the part, mm" ∷ []) ∷ [] in
    let off = say (codes "deviation, mm" ∷ []) ∷ [] in
    adds_then r (say (codes "touched at, mm" ∷ []) ∷ []) (place ++ off) _ _ _ c.in_ok-put_cell.ensures
    (adds_then r place off _ _ _ c.in_ok-put_cell-2.ensures c.put_cell-3.ensures)
