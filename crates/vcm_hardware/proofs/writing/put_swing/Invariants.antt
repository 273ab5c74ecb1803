use Rattle.std.proofs.Common.{◌≡◌, ◌++◌, ◌-◌}
use Rattle.std.specs.Prelude.{flat_map}
use Rattle.vcm_hardware.specs.Swings.{swing_behind}
use Rattle.vcm_hardware.specs.ProbeFile.{swing_box_text, swing_text}
use Rattle.vcm_hardware.proofs.writing.put_swing.Given as goal

abbrev pub invariant-loop-index : goal.invariant-loop-index
invariant-loop-index l = record {
  bytes : l.out.items ++ flat_map swing_box_text (swing_behind l.swing l.index (16 - l.index)) ≡ l.fn.out.items ++ swing_text l.swing;
}
