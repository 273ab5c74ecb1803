use Rattle.std.proofs.Common.{◌≡◌, drop}
use Rattle.vcm_substitution.specs.Sizes.{are_small_offsets}
use Rattle.vcm_substitution.proofs.small.offsets.Given as goal

abbrev pub invariant-loop-offset : goal.invariant-loop-offset
invariant-loop-offset l = are_small_offsets (drop l.offset-index l.offsets) ≡ are_small_offsets l.offsets
