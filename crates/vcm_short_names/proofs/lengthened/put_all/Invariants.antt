use Rattle.std.proofs.Common.{◌≡◌, ◌++◌, drop}
use Rattle.vcm_short_names.specs.Lengthened.{long_pieces}
use Rattle.vcm_short_names.proofs.lengthened.put_all.Given as goal

abbrev pub invariant-loop-piece : goal.invariant-loop-piece
invariant-loop-piece l = record { left : l.out.items ++ long_pieces l.names (drop l.piece-index l.pieces) ≡ long_pieces l.names l.pieces }
