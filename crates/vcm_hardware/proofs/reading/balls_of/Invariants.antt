use Rattle.std.proofs.Common.{◌≡◌, drop, length, []}
use Rattle.toml.specs.View.{items_view}
use Rattle.vcm_hardware.specs.HardwareFile.{ball_of, all_behind}
use Rattle.vcm_hardware.proofs.reading.balls_of.Given as goal

abbrev pub invariant-loop-row : goal.invariant-loop-row
invariant-loop-row l = record {
  many : length l.balls.items ≡ l.row-index;
  read : all_behind ball_of l.balls.items (items_view (drop l.row-index l.rows)) ≡ all_behind ball_of [] (items_view l.rows);
}
