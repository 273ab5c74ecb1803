use Rattle.vcm_sheet.proofs.Tabled.{blocks_said}
use Rattle.vcm_sheet.proofs.rows.put_blocks.Goals as goal

pub returns : goal.returns
returns c =
    blocks_said c.put_table.result c.args.most (λ n. n.items) c.args.names.now c.in_ok-blocks.blocks.items _ _ c.in_ok-blocks.ensures
    (rw c.as_slice.ensures.value at c.put_table.ensures)
