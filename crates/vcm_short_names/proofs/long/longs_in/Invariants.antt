use Rattle.std.proofs.Common.{◌≡◌, [], drop}
use Rattle.vcm_short_names.specs.Short.{longs_from}
use Rattle.vcm_short_names.proofs.long.longs_in.Given as goal

abbrev pub invariant-loop-piece : goal.invariant-loop-piece
invariant-loop-piece l = record {
  left : longs_from l.longs (drop l.piece-index l.pieces) ≡ longs_from [] l.pieces;
}
