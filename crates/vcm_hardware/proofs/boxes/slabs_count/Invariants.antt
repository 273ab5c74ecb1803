use Rattle.std.proofs.Common.{◌≡◌, ◌≤◌, ◌+◌, ◌-◌, length}
use Rattle.vcm_hardware.specs.Slabs.{slabs_behind, cylinder_boxes}
use Rattle.vcm_hardware.proofs.boxes.slabs_count.Given as goal

abbrev pub invariant-loop-index : goal.invariant-loop-index
invariant-loop-index l = record {
  few : l.count ≤ l.index;
  so_far : l.count + length (slabs_behind l.slabs l.index (l.slabs.count - l.index)) ≡ length (cylinder_boxes l.slabs);
}
