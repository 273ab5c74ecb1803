use Rattle.std.proofs.Common.{map}
use Rattle.vcm_sheet.specs.Tables.{block_row}
use Rattle.vcm_sheet.proofs.Saying.{row_more, all_rows}
use Rattle.vcm_sheet.proofs.rows.put_block_rows.Goals as goal

pub loop-block-preserved : goal.loop-block-preserved
loop-block-preserved c = record {
  rows = row_more (block_row (map (λ n. n.items) c.args.names.now)) c.args.blocks.now c.loop-block.block-index _ _ _ _ c.loop-block-test.true
      c.loop-block.invariant.rows c.in_ok-at.ensures;
}

pub returns : goal.returns
returns c =
    all_rows (block_row (map (λ n. n.items) c.args.names.now)) c.args.blocks.now c.loop-block.block-index _ _ c.loop-block-test.false
    c.loop-block.invariant.rows
