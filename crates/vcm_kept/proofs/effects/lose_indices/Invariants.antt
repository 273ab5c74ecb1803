use Rattle.std.proofs.Common.{◌≡◌, ◌++◌, drop}
use Rattle.std.specs.List.{flat_map}
use Rattle.vcm_kept.specs.Effects.{lose_index}
use Rattle.vcm_kept.proofs.effects.lose_indices.Given as goal

abbrev pub invariant-loop-index : goal.invariant-loop-index
invariant-loop-index l = record {
  left : l.out.items ++ flat_map (lose_index l.line) (drop l.index-index l.indices) ≡ l.initial.out.items ++ flat_map (lose_index l.line) l.indices;
}
