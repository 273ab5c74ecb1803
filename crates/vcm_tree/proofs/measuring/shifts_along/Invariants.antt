use Rattle.std.proofs.Common.{◌≡◌, drop}
use Rattle.vcm_tree.specs.Features.{shifts_of, no_shifts}
use Rattle.vcm_tree.specs.inner.Shifting.{shifts}
use Rattle.vcm_tree.proofs.measuring.shifts_along.Given as goal

abbrev pub invariant-loop-offset : goal.invariant-loop-offset
invariant-loop-offset l = record {
  left : shifts_of l.names no_shifts l.offsets ≡ shifts_of l.names (shifts l.along) (drop l.offset-index l.offsets);
}
