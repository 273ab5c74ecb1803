use Rattle.std.proofs.Common.{◌≡◌, ◌++◌, drop}
use Rattle.std.specs.List.{flat_map}
use Rattle.vcm_kept.specs.Choices.{declares_choice}
use Rattle.vcm_kept.proofs.choices.declare_at.Given as goal

abbrev pub invariant-loop-depth : goal.invariant-loop-depth
invariant-loop-depth l = record {
  left : l.out.items ++ flat_map declares_choice (drop l.depth-index l.depths) ≡ l.initial.out.items ++ flat_map declares_choice l.depths;
}
