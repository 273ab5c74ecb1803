-- Expressions as they are kept: their parts in postfix order.
use Rattle.std.specs.Prelude.{Option, Some, None, List, [], ◌∷◌, ◌++◌, true}
use Rattle.vcm_expr.specs.declared.expression.Term.{Term}
use Rattle.vcm_expr.specs.declared.expression.Term.TheVariants as term
use Rattle.vcm_expr.specs.declared.expression.Piece.{Piece}
use Rattle.vcm_expr.specs.declared.expression.Piece.TheVariants.{Number, Truth, Variable, Front, Between}
use Rattle.vcm_expr.specs.declared.expression.PieceList.{PieceList}
use Rattle.vcm_expr.specs.declared.expression.PieceList.TheVariants.{One, Many}
use Rattle.vcm_expr.specs.Source.{Source, Plain, Prefixed, Pair, parts}

-- the leaf that a part is, where it is one
abbrev pub term_in : Piece → Option Term
term_in (Number n) = Some (term.Number n)
term_in (Truth b) = Some (term.Truth b)
term_in (Variable name e) = Some (term.Variable name e)
term_in p = None

-- those of a stack of expressions, the topmost first: its parts stand last
abbrev pub all_parts : List Source → List Piece
all_parts [] = []
all_parts (e ∷ es) = all_parts es ++ parts e

-- one part more on a stack of expressions; where there are too few of them it changes nothing
abbrev pub with_piece : Piece → List Source → List Source
with_piece (Number n) es = Plain (term.Number n) ∷ es
with_piece (Truth b) es = Plain (term.Truth b) ∷ es
with_piece (Variable name e) es = Plain (term.Variable name e) ∷ es
with_piece (Front op) (e ∷ es) = Prefixed op e ∷ es
with_piece (Between op) (f ∷ e ∷ es) = Pair op e f ∷ es
with_piece _ es = es

-- parts one after the other
abbrev pub with_pieces : List Piece → List Source → List Source
with_pieces [] es = es
with_pieces (p ∷ ps) es = with_pieces ps (with_piece p es)

-- the parts that are kept
abbrev pub pieces_of : PieceList → List Piece
pieces_of (One p) = p ∷ []
pieces_of (Many v) = v.items

-- the topmost expression
abbrev pub top_of : List Source → Source
top_of (e ∷ es) = e
top_of [] = Plain (term.Truth true)

-- the expression that is kept
abbrev pub source_of : PieceList → Source
source_of w = top_of (with_pieces (pieces_of w) [])
