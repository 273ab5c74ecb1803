use Rattle.std.proofs.Common.{◌∷◌, [], map}
use Rattle.vcm_sheet.specs.Sayings.{say}
use Rattle.vcm_sheet.specs.Tables.{numbers, last_named}
use Rattle.vcm_sheet.specs.Written.{name_of, written}
use Rattle.vcm_sheet.proofs.Saying.{adds_both}
use Rattle.vcm_sheet.proofs.rows.put_block.Goals as goal

pub returns : goal.returns
returns c =
    let names = map (λ n. n.items) c.args.names.now in
    adds_both (say (numbers c.args.block (last_named names c.args.block)) ∷ []) (say (written (name_of names c.args.block) ∷ []) ∷ []) _ _ _
    (rw c.last_named.ensures at c.in_ok-put_range.ensures)
    (rw (c.as_slice.ensures.value, c.in_ok-name.ensures, c.name_of.ensures) at c.in_ok-put_cell.ensures)
