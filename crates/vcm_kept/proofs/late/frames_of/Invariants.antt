use Rattle.std.proofs.Common.{◌≡◌, ◌++◌, drop}
use Rattle.std.specs.List.{flat_map}
use Rattle.vcm_kept.specs.Late.{frame_made}
use Rattle.vcm_kept.proofs.late.frames_of.Given as goal

abbrev pub invariant-loop-placed : goal.invariant-loop-placed
invariant-loop-placed l = record {
  left : flat_map (λ p. frame_made p.statement.form) l.all ≡ l.out.items ++ flat_map (λ p. frame_made p.statement.form) (drop l.placed-index l.all);
}
