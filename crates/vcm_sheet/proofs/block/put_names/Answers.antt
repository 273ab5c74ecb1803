use Rattle.std.proofs.Common.{◌∷◌, [], take}
use Rattle.std.specs.Prelude.{codes}
use Rattle.vcm_sheet.specs.Block.{cell}
use Rattle.vcm_sheet.specs.Written.{written}
use Rattle.vcm_sheet.proofs.Saying.{adds_then}
use Rattle.vcm_sheet.proofs.block.put_names.Goals as goal

pub returns : goal.returns
returns c =
    let program = cell (codes "program") (written (take 70 c.args.title.now) ∷ []) in
    let part = cell (codes "part") (written (take 38 c.args.part.now) ∷ []) in
    adds_then c.put_cell-2.result program part _ _ _ (rw (c.as_slice.ensures.value, c.in_ok-title.ensures, c.front_of.ensures) at c.in_ok-put_cell.ensures)
    (rw (c.as_slice-2.ensures.value, c.in_ok-part.ensures, c.front_of-2.ensures) at c.put_cell-2.ensures)
