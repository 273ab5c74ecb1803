use Rattle.std.proofs.Common.{◌≡◌, drop, length, []}
use Rattle.toml.specs.View.{items_view}
use Rattle.vcm_hardware.specs.HardwareFile.{head_of, all_behind}
use Rattle.vcm_hardware.proofs.reading.heads_of.Given as goal

abbrev pub invariant-loop-row : goal.invariant-loop-row
invariant-loop-row l = record {
  many : length l.heads.items ≡ l.row-index;
  read : all_behind head_of l.heads.items (items_view (drop l.row-index l.rows)) ≡ all_behind head_of [] (items_view l.rows);
}
