use Rattle.std.proofs.Common.{◌≡◌, ◌++◌, drop, map}
use Rattle.vcm_kept.specs.Exactly.{exact_shift}
use Rattle.vcm_kept.proofs.exactly.exact_shifts.Given as goal

abbrev pub invariant-loop-offset : goal.invariant-loop-offset
invariant-loop-offset l = record {
  left : map (exact_shift l.names) l.offsets ≡ l.exact ++ map (exact_shift l.names) (drop l.offset-index l.offsets);
}
