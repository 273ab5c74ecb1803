use Rattle.std.proofs.Common.{◌≡◌, ◌+◌, drop, length}
use Rattle.vcm_part.specs.PartFile.{blocks_from}
use Rattle.toml.specs.View.{items_view}
use Rattle.std.proofs.Common.{true}
use Rattle.std.specs.List.{list_all}
use Rattle.vcm_spec.specs.Workpiece.{is_block}
use Rattle.vcm_part.proofs.Rows.{with_front}
use Rattle.vcm_part.proofs.reading.blocks_of.Given as goal

abbrev pub invariant-loop-row : goal.invariant-loop-row
invariant-loop-row l = record {
  few : length l.blocks.items ≡ l.row-index;
  valid : list_all is_block l.blocks.items ≡ true;
  number : l.number ≡ l.row-index;
  front : with_front l.blocks.items (blocks_from (l.row-index + 1) (items_view (drop l.row-index l.rows))) ≡ blocks_from 1 (items_view l.rows);
}
