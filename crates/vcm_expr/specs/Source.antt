-- Expressions as they are written: no parentheses, no scalings, names in place of variables.
use Rattle.std.specs.Prelude.{◌≡◌, ℕ, ◌+◌, max, nat_le, ◌&&◌, Bool, true, Option, Some, None, List, [], ◌∷◌, ◌++◌}
use Rattle.vcm_spec.specs.declared.expression.BinaryOp.{BinaryOp}
use Rattle.vcm_expr.specs.declared.expression.Prefix.{Prefix}
use Rattle.vcm_expr.specs.declared.expression.Term.{Term}
use Rattle.vcm_expr.specs.declared.expression.Piece.{Piece}
use Rattle.vcm_expr.specs.declared.expression.Term.TheVariants as term
use Rattle.vcm_expr.specs.declared.expression.Piece.TheVariants.{Number, Truth, Variable, Front, Between}
use Rattle.vcm_expr.specs.declared.expression.Size.{Size}
use Rattle.vcm_num.specs.declared.limits.TheConstants.{DEEPEST_EXPRESSION, MOST_NODES}

-- an expression: a leaf, or a sign or an operator on one or two expressions
pub data Source : Type 0 where
  Plain : Term → Source
  Prefixed : Prefix → Source → Source
  Pair : BinaryOp → Source → Source → Source

-- the part that a leaf is
abbrev pub leaf_piece : Term → Piece
leaf_piece (term.Number n) = Number n
leaf_piece (term.Truth b) = Truth b
leaf_piece (term.Variable name e) = Variable name e

-- the parts of an expression in postfix order
abbrev pub parts : Source → List Piece
parts (Plain t) = leaf_piece t ∷ []
parts (Prefixed op a) = parts a ++ Front op ∷ []
parts (Pair op a b) = parts a ++ (parts b ++ Between op ∷ [])

-- the leaf that it is, where it is one
abbrev pub leaf_in : Source → Option Term
leaf_in (Plain t) = Some t
leaf_in _ = None

-- how deep it is: a leaf has 1
abbrev pub depth_of : Source → ℕ
depth_of (Plain t) = 1
depth_of (Prefixed op a) = depth_of a + 1
depth_of (Pair op a b) = max (depth_of a) (depth_of b) + 1

-- how many nodes it has
abbrev pub nodes_of : Source → ℕ
nodes_of (Plain t) = 1
nodes_of (Prefixed op a) = nodes_of a + 1
nodes_of (Pair op a b) = nodes_of a + nodes_of b + 1

-- it is within both limits
abbrev pub is_small : Source → Bool
is_small s = nat_le (depth_of s) DEEPEST_EXPRESSION && nat_le (nodes_of s) MOST_NODES

-- a size is that of an expression within both limits
pub record IsSize (s : Size) (e : Source) : Type 0 where
  pub depth : s.depth ≡ depth_of e
  pub nodes : s.nodes ≡ nodes_of e
  pub small : is_small e ≡ true
