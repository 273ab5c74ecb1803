use Rattle.std.proofs.Common.{◌++◌, length, map, take}
use Rattle.std.specs.Prelude.{flat_map, codes}
use Rattle.vcm_sheet.specs.Tables.{more_rows, block_row, blocks_head}
use Rattle.vcm_sheet.proofs.Saying.{adds_last}
use Rattle.vcm_sheet.proofs.Tabled.{table_said}
use Rattle.vcm_sheet.proofs.rows.put_table.Goals as goal

pub returns : goal.returns
returns c =
    let blocks = c.args.blocks.now in
    let rows = flat_map (block_row (map (λ n. n.items) c.args.names.now)) (take c.args.most blocks) in
    let more = more_rows c.args.most (length blocks) (codes " more names") in
    table_said c.put_more.result (length blocks) c.is_empty.result (blocks_head ++ (rows ++ more)) _ _ c.is_empty.ensures c.if-is_empty.false
    (adds_last c.put_more.result blocks_head (rows ++ more) _ _ _ c.in_ok-at.ensures
    (adds_last c.put_more.result rows more _ _ _ (rw c.first_rows.ensures at c.in_ok-at-2.ensures) c.put_more.ensures))
