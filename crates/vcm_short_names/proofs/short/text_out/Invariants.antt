use Rattle.std.proofs.Common.{◌≡◌, ◌++◌, drop}
use Rattle.vcm_short_names.specs.Short.{text_out}
use Rattle.vcm_short_names.proofs.short.text_out.Given as goal

abbrev pub invariant-loop-piece : goal.invariant-loop-piece
invariant-loop-piece l = record {
  left : text_out l.names l.pieces ≡ l.out.items ++ text_out l.names (drop l.piece-index l.pieces);
}
