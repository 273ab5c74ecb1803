use Rattle.std.proofs.Common.{◌≡◌, ◌++◌, drop}
use Rattle.std.specs.Prelude.{map}
use Rattle.vcm_substitution.specs.Substitution.{put_offset}
use Rattle.vcm_substitution.specs.Sizes.{are_small_offsets}
use Rattle.vcm_substitution.proofs.putting.put_offsets.Given as goal

abbrev pub invariant-loop-offset : goal.invariant-loop-offset
invariant-loop-offset l = record {
  done : l.offsets ++ map (put_offset l.bindings) (drop l.offset-index l.written) ≡ map (put_offset l.bindings) l.written;
  small : are_small_offsets (map (put_offset l.bindings) (drop l.offset-index l.written)) ≡ are_small_offsets (map (put_offset l.bindings) l.written);
}
