use Rattle.std.proofs.Common.{take}
use Rattle.std.specs.Prelude.{flat_map}
use Rattle.std.specs.Io.KnownBytes.{Appends}
use Rattle.vcm_num.proofs.writing.write_pieces.Given as goal

abbrev pub invariant-loop-piece : goal.invariant-loop-piece
invariant-loop-piece g l = record {
  written : Appends (g.W.Write.contents l.fn.writer) (g.W.Write.contents l.writer) (flat_map (λ p. p.now) (take l.piece-index l.pieces));
}
