use Rattle.std.proofs.Common.{◌≡◌, [], List, drop}
use Rattle.vcm_expr.specs.Source.{Source}
use Rattle.vcm_expr.specs.inner.Pieces.{with_pieces}
use Rattle.vcm_expr.specs.inner.Typings.{AreTyped}
use Rattle.vcm_expr.proofs.typing.typed.Given as goal

-- the expressions that are there, and what the parts to come make of them
abbrev pub invariant-loop-piece : goal.invariant-loop-piece
invariant-loop-piece l = (es : List Source) × (with_pieces l.pieces [] ≡ with_pieces (drop l.piece-index l.pieces) es) × AreTyped l.names es l.open l.fn.items.items l.items.items
