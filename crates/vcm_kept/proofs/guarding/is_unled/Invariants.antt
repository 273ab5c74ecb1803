use Rattle.std.proofs.Common.{◌≡◌, drop}
use Rattle.vcm_kept.specs.Guarding.{is_unled}
use Rattle.vcm_kept.proofs.guarding.is_unled.Given as goal

abbrev pub invariant-loop-placed : goal.invariant-loop-placed
invariant-loop-placed l = record {
  left : is_unled l.all ≡ is_unled (drop l.placed-index l.all);
}
