use Rattle.std.proofs.Common.{◌≡◌, ◌++◌, ◌-◌}
use Rattle.vcm_hardware.specs.Slabs.{slabs_behind, cylinder_boxes}
use Rattle.vcm_hardware.specs.ProbeFile.{blocks_text}
use Rattle.vcm_hardware.proofs.writing.put_slabs.Given as goal

abbrev pub invariant-loop-index : goal.invariant-loop-index
invariant-loop-index l = record {
  bytes : l.out.items ++ blocks_text l.name (slabs_behind l.slabs l.index (l.slabs.count - l.index))
      ≡ l.fn.out.items ++ blocks_text l.name (cylinder_boxes l.slabs);
}
