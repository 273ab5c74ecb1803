use Rattle.std.proofs.Common.{◌≡◌, drop, length, true, []}
use Rattle.std.specs.List.{list_all}
use Rattle.toml.specs.View.{items_view}
use Rattle.vcm_boxes.specs.Boxes.{is_box}
use Rattle.vcm_probe_set.specs.ProbeFile.{rows_behind, box_of}
use Rattle.vcm_probe_set.proofs.boxes.boxes_of_rows.Given as goal

abbrev pub invariant-loop-row : goal.invariant-loop-row
invariant-loop-row l = record {
  many : length l.boxes.items ≡ l.row-index;
  valid : list_all is_box l.boxes.items ≡ true;
  read : rows_behind (box_of l.owner) l.boxes.items (items_view (drop l.row-index l.rows)) ≡ rows_behind (box_of l.owner) [] (items_view l.rows);
}
