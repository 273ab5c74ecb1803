use Rattle.std.proofs.Common.{◌≡◌, ◌≤◌, ◌+◌, ◌-◌, ◌++◌, length, take}
use Rattle.std.specs.Vec.{vec_len, vec_capacity}
use Rattle.vcm_expr.proofs.expression.append_copies.Given as goal

-- the parts before the index are there, and there is room for the others
abbrev pub invariant-loop-piece : goal.invariant-loop-piece
invariant-loop-piece l = (l.pieces.items ≡ l.fn.pieces.items ++ take l.piece-index l.others) × (vec_len l.pieces + (length l.others - l.piece-index) ≤ vec_capacity l.pieces)
