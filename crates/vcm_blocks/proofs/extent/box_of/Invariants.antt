use Rattle.std.proofs.Common.{◌≡◌, drop}
use Rattle.vcm_blocks.specs.Adding.{box_with, box_of}
use Rattle.vcm_blocks.proofs.extent.box_of.Given as goal

abbrev pub invariant-loop-triangle : goal.invariant-loop-triangle
invariant-loop-triangle l = box_with l.around (drop l.triangle-index l.triangles) ≡ box_of l.triangles
