use Rattle.std.proofs.Common.{map, take}
use Rattle.std.specs.Prelude.{flat_map}
use Rattle.vcm_sheet.specs.Sayings.{Adds}
use Rattle.vcm_sheet.specs.Tables.{block_row}
use Rattle.vcm_sheet.proofs.rows.put_block_rows.Given as goal

abbrev pub invariant-loop-block : goal.invariant-loop-block
invariant-loop-block l = record {
  rows : Adds (flat_map (block_row (map (λ n. n.items) l.names)) (take l.block-index l.blocks)) l.fn.out.items l.out.items;
}
