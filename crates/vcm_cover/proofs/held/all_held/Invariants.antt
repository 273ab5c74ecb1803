use Rattle.std.proofs.Common.{take}
use Rattle.std.specs.List.{All}
use Rattle.vcm_cover.specs.inner.Held.{IsHeldWhole}
use Rattle.vcm_cover.proofs.held.all_held.Given as goal

abbrev pub invariant-loop-triangle : goal.invariant-loop-triangle
invariant-loop-triangle l = All (IsHeldWhole l.blocks) (take l.triangle-index l.triangles)
