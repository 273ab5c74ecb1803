use Rattle.std.proofs.Common.{◌≡◌, ◌+◌, ℕ}
use Rattle.vcm_short_names.specs.Short.{free_from}
use Rattle.vcm_short_names.proofs.short.first_free.Given as goal

abbrev pub invariant-loop-number : goal.invariant-loop-number
invariant-loop-number l = record {
  left : (k : ℕ) → l.number + k ≡ l.most → free_from l.pieces l.names l.long l.most 0 ≡ free_from l.pieces l.names l.long k l.number;
}
