use Rattle.std.proofs.Common.{◌≡◌, ◌++◌, drop, map, pos}
use Rattle.vcm_kept.specs.Guarding.{opens}
use Rattle.vcm_kept.proofs.guarding.open_known.Given as goal

abbrev pub invariant-loop-one : goal.invariant-loop-one
invariant-loop-one l = record {
  left : l.out.items ++ map (λ c. opens c (pos 1)) (drop l.one-index l.all) ≡ l.initial.out.items ++ map (λ c. opens c (pos 1)) l.all;
}
