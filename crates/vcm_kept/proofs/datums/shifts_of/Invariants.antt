use Rattle.std.proofs.Common.{◌≡◌, ◌++◌, drop, map}
use Rattle.vcm_kept.specs.Datums.{shift_of}
use Rattle.vcm_kept.proofs.datums.shifts_of.Given as goal

abbrev pub invariant-loop-offset : goal.invariant-loop-offset
invariant-loop-offset l = record {
  left : map shift_of l.offsets ≡ l.shifts ++ map shift_of (drop l.offset-index l.offsets);
}
