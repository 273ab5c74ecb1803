use Rattle.std.proofs.Common.{◌∷◌, [], ◌++◌}
use Rattle.std.specs.Prelude.{codes}
use Rattle.vcm_sheet.specs.Sayings.{say}
use Rattle.vcm_sheet.proofs.Saying.{adds_then}
use Rattle.vcm_sheet.proofs.rows.put_points_head.Goals as goal

pub returns : goal.returns
returns c =
    let r = c.put_measured_head.result in
    let line = say (codes "line" ∷ []) ∷ [] in
    let feature = say (codes "feature" ∷ []) ∷ [] in
    let measured = say (codes "touched at, mm" ∷ []) ∷ say (codes "in the part, mm" ∷ []) ∷ say (codes "deviation, mm" ∷ []) ∷ [] in
    adds_then r (say (codes "point" ∷ []) ∷ []) (line ++ (feature ++ measured)) _ _ _ c.in_ok-put_cell.ensures
    (adds_then r line (feature ++ measured) _ _ _ c.in_ok-put_cell-2.ensures
    (adds_then r feature measured _ _ _ c.in_ok-put_cell-3.ensures c.put_measured_head.ensures))
