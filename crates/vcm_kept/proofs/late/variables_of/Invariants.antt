use Rattle.std.proofs.Common.{◌≡◌, ◌++◌, drop}
use Rattle.std.specs.List.{flat_map}
use Rattle.vcm_kept.specs.Late.{variables_made}
use Rattle.vcm_kept.proofs.late.variables_of.Given as goal

abbrev pub invariant-loop-placed : goal.invariant-loop-placed
invariant-loop-placed l = record {
  left : flat_map (λ p. variables_made p.expansion p.statement.form) l.all
      ≡ l.out.items ++ flat_map (λ p. variables_made p.expansion p.statement.form) (drop l.placed-index l.all);
}
