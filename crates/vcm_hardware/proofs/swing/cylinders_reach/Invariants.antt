use Rattle.std.proofs.Common.{◌≡◌, drop}
use Rattle.vcm_hardware.specs.Swings.{cylinders_reach, no_reach}
use Rattle.vcm_hardware.specs.inner.Sizes.{IsReached}
use Rattle.vcm_hardware.proofs.swing.cylinders_reach.Given as goal

abbrev pub invariant-loop-part : goal.invariant-loop-part
invariant-loop-part l = record {
  small : IsReached l.all;
  so_far : cylinders_reach l.all (drop l.part-index l.parts) ≡ cylinders_reach no_reach l.parts;
}
