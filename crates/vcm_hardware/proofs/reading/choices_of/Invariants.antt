use Rattle.std.proofs.Common.{◌≡◌, drop, length, []}
use Rattle.toml.specs.View.{items_view}
use Rattle.vcm_hardware.specs.HardwareFile.{choice_of, all_behind}
use Rattle.vcm_hardware.proofs.reading.choices_of.Given as goal

abbrev pub invariant-loop-row : goal.invariant-loop-row
invariant-loop-row l = record {
  many : length l.choices.items ≡ l.row-index;
  read : all_behind (choice_of l.hardware) l.choices.items (items_view (drop l.row-index l.rows)) ≡ all_behind (choice_of l.hardware) [] (items_view l.rows);
}
