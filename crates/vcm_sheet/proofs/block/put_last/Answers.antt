use Rattle.std.proofs.Common.{◌∷◌, []}
use Rattle.std.specs.Prelude.{codes}
use Rattle.vcm_sheet.specs.Block.{cell, paper_words}
use Rattle.vcm_sheet.specs.Sayings.{say}
use Rattle.vcm_sheet.proofs.Saying.{adds_then}
use Rattle.vcm_sheet.proofs.block.put_last.Goals as goal

pub returns : goal.returns
returns c =
    let r = c.put_cell.result in
    let sheet = cell (codes "sheet") (paper_words c.args.paper ∷ []) in
    adds_then r (say (codes "third-angle" ∷ []) ∷ []) sheet _ _ _ c.in_ok-put_words.ensures
    (adds_then r [] sheet _ _ _ c.in_ok-put_symbol.ensures (rw c.paper_words.ensures at c.put_cell.ensures))
