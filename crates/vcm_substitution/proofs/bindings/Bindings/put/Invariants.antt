use Rattle.std.proofs.Common.{◌≡◌, [], List, drop}
use Rattle.vcm_expr.specs.Source.{Source}
use Rattle.vcm_expr.specs.inner.Pieces.{with_pieces}
use Rattle.vcm_substitution.specs.inner.Putting.{Puts}
use Rattle.vcm_substitution.proofs.bindings.Bindings.put.Given as goal

-- what the expressions so far say is there, and the parts to come go on from these
abbrev pub invariant-loop-piece : goal.invariant-loop-piece
invariant-loop-piece l = (es : List Source) × (with_pieces l.piece-items [] ≡ with_pieces (drop l.piece-index l.piece-items) es) × Puts l.self es l.draft l.sizes
