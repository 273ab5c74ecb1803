use Rattle.std.proofs.Common.{◌≡◌, ◌++◌, drop}
use Rattle.std.specs.List.{filter}
use Rattle.vcm_short_names.specs.inner.Full.{is_full}
use Rattle.vcm_short_names.proofs.short.full_ones.Given as goal

abbrev pub invariant-loop-piece : goal.invariant-loop-piece
invariant-loop-piece l = record {
  left : filter is_full l.pieces ≡ l.full ++ filter is_full (drop l.piece-index l.pieces);
}
