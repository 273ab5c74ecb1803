use Rattle.std.proofs.Common.{◌∷◌, []}
use Rattle.std.specs.Prelude.{codes}
use Rattle.vcm_sheet.specs.Sayings.{say}
use Rattle.vcm_sheet.proofs.Saying.{adds_both}
use Rattle.vcm_sheet.proofs.rows.put_blocks_head.Goals as goal

pub returns : goal.returns
returns c =
    adds_both (say (codes "block" ∷ []) ∷ []) (say (codes "name" ∷ []) ∷ []) _ _ _ c.in_ok-put_cell.ensures c.in_ok-put_cell-2.ensures
