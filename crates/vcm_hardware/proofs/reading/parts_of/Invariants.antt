use Rattle.std.proofs.Common.{◌≡◌, drop, length, []}
use Rattle.toml.specs.View.{items_view}
use Rattle.vcm_hardware.specs.HardwareFile.{part_of, all_behind}
use Rattle.vcm_hardware.proofs.reading.parts_of.Given as goal

abbrev pub invariant-loop-row : goal.invariant-loop-row
invariant-loop-row l = record {
  many : length l.parts.items ≡ l.row-index;
  read : all_behind (part_of l.step) l.parts.items (items_view (drop l.row-index l.rows)) ≡ all_behind (part_of l.step) [] (items_view l.rows);
}
