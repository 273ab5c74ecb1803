use Rattle.std.proofs.Common.{◌≡◌, drop}
use Rattle.std.specs.List.{list_all}
use Rattle.vcm_kept.specs.Guarding.{has_shift}
use Rattle.vcm_kept.proofs.frames.have_forms.Given as goal

abbrev pub invariant-loop-offset : goal.invariant-loop-offset
invariant-loop-offset l = record {
  left : list_all (has_shift l.names) l.offsets ≡ list_all (has_shift l.names) (drop l.offset-index l.offsets);
}
