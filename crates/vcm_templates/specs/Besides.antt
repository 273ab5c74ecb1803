-- How far values may lie from the machine's, in thousandths: what is cut off, and what comes of that.
use Rattle.std.specs.Prelude.{ℕ, ℤ, pos, ◌-ℤ◌, int_lt, nat_eq, Bool, true, false, if◌then◌else◌, List, [], ◌∷◌, ◌++◌, Option, Some, None}
use Rattle.vcm_num.specs.declared.number.Kind.{Kind}
use Rattle.vcm_num.specs.declared.number.Kind.TheVariants as kinds
use Rattle.vcm_num.specs.declared.number.Literal.TheVariants.{Int, Thousandths}
use Rattle.vcm_spec.specs.declared.expression.BinaryOp.{BinaryOp}
use Rattle.vcm_spec.specs.declared.expression.BinaryOp.TheVariants as op
use Rattle.vcm_spec.specs.declared.expression.Relation.TheVariants.{Equal, Greater, LessEqual}
use Rattle.vcm_spec.specs.Setup.{Variable}
use Rattle.vcm_items.specs.Names.{variable_of}
use Rattle.vcm_expr.specs.declared.expression.Prefix.{Prefix}
use Rattle.vcm_expr.specs.declared.expression.Prefix.TheVariants.{Minus}
use Rattle.vcm_expr.specs.declared.expression.Term.{Term}
use Rattle.vcm_expr.specs.declared.expression.Term.TheVariants.{Number, Variable as Named}
use Rattle.vcm_expr.specs.declared.expression.Piece.{Piece}
use Rattle.vcm_expr.specs.declared.expression.Piece.TheVariants as piece
use Rattle.vcm_expr.specs.Source.{Source, Plain, parts, leaf_in}
use Rattle.vcm_events.specs.Joined.{joined}
use Rattle.vcm_templates.specs.declared.carried.Item.TheVariants as items
use Rattle.vcm_templates.specs.declared.carried.TheConstants.{IMPLICIT}
use Rattle.vcm_templates.specs.declared.besides.Formula.{Formula}
use Rattle.vcm_templates.specs.declared.besides.Formula.TheVariants.{Nothing, This, TooLarge}
use Rattle.vcm_templates.specs.declared.besides.Beside.{Beside}
use Rattle.vcm_templates.specs.Carried.{item_term}
use Rattle.vcm_templates.specs.Exact.{kind_in}

-- ---- formulas

-- an expression as a formula, where it isn't too large
abbrev pub formula_of : Option Source → Formula
formula_of None = TooLarge
formula_of (Some e) = This e

-- an operator on two formulas that are there
abbrev pub on_both : BinaryOp → Formula → Formula → Formula
on_both o (This a) (This b) = formula_of (joined o a b)
on_both o a b = TooLarge

-- an operator on two formulas, of which either may be missing
abbrev pub on_any : BinaryOp → Formula → Formula → Formula
on_any o Nothing b = b
on_any o a Nothing = a
on_any o a b = on_both o a b

-- ---- bounds

-- whether a text carries how far its values may lie from the machine's: then the first of its variables is one that no text can write
abbrev pub carries_bounds : List Variable → Bool
carries_bounds [] = false
carries_bounds (v ∷ vs) = nat_eq v.expansion IMPLICIT

-- how far a variable of this kind may lie from the machine's
abbrev pub bound_of : Option ℕ → Option Kind → Formula
bound_of (Some i) (Some kinds.Real) = This (Plain (item_term items.Beside i))
bound_of i k = Nothing

-- whether an expression is a whole number
abbrev pub is_whole : Option Term → Bool
is_whole (Some (Number (Int n))) = true
is_whole t = false

-- what stands for the size of a factor: of a number itself, of another whole number its square, which is no less
abbrev pub size : Source → Formula
size e = if is_whole (leaf_in e) then This e else formula_of (joined op.Mul e e)

-- the size of a factor that is there
abbrev pub size_in : Formula → Formula
size_in (This e) = size e
size_in v = TooLarge

-- the bound of a product, by the bounds and the values of its factors
abbrev pub product_bound : (a v b w : Formula) → Formula
product_bound Nothing v Nothing w = Nothing
product_bound Nothing v b w = on_both op.Mul b (size_in v)
product_bound a v Nothing w = on_both op.Mul a (size_in w)
product_bound a v b w = TooLarge

-- a number, where it is one to divide by
abbrev pub divisor_in : Option Term → Option ℤ
divisor_in (Some (Number (Int n))) = if int_lt (pos 0) n then Some n else None
divisor_in t = None

-- the number that a formula is, where it is one to divide by
abbrev pub divisor_of : Formula → Option ℤ
divisor_of (This e) = divisor_in (leaf_in e)
divisor_of v = None

-- a whole number as a formula
abbrev pub number : ℤ → Formula
number n = This (Plain (Number (Int n)))

-- so many thousandths as a formula
abbrev pub thousandths : ℤ → Formula
thousandths n = This (Plain (Number (Thousandths n)))

-- one thousandth less than so many
abbrev pub just_below : ℤ → Formula
just_below n = thousandths (n -ℤ pos 1)

-- what a value leaves when it is divided by a number
abbrev pub rest : Formula → ℤ → Formula
rest v n = on_both op.Sub v (on_both op.Mul (on_both op.Div v (number n)) (number n))

-- the part of a value that one of so many is, to the next thousandth above
abbrev pub part_above : Formula → ℤ → Formula
part_above v n = on_both op.Div (on_both op.Add v (just_below n)) (number n)

-- the same of a value below zero
abbrev pub part_below : Formula → ℤ → Formula
part_below v n = on_both op.Div (on_both op.Sub (just_below n) v) (number n)

-- a thousandth where a quotient is cut off, else 0
abbrev pub cut : Formula → ℤ → Formula
cut v n = on_both op.Add (part_above (rest v n) n) (part_below (rest v n) n)

-- the bound of a part, by the bound of the whole
abbrev pub bound_shared : Formula → ℤ → Formula
bound_shared Nothing n = Nothing
bound_shared b n = part_above b n

-- the bound of a quotient by a number, if there is one
abbrev pub quotient_bound : (b v : Formula) → Option ℤ → Formula
quotient_bound b v None = TooLarge
quotient_bound b v (Some n) = on_any op.Add (bound_shared b n) (cut v n)

-- ---- values, with their bounds and what is asked

-- a value that is the machine's
abbrev pub exactly : Source → Beside
exactly e = record { value = This e; bound = Nothing; asked = Nothing }

-- a truth value, where this is asked
abbrev pub truth_where : Formula → Beside
truth_where asked = record { value = Nothing; bound = Nothing; asked = asked }

-- a variable with this bound
abbrev pub within : Source → Formula → Beside
within e b = record { value = This e; bound = b; asked = Nothing }

-- nothing
abbrev pub zero_value : Formula
zero_value = number (pos 0)

-- a sign in front of a value; what stands behind .NOT. is asked as it is
abbrev pub signed_value : Prefix → Beside → Beside
signed_value Minus a = record a { value = on_both op.Sub zero_value a.value }
signed_value p a = a

-- what is asked of two values together
abbrev pub asked_of : Beside → Beside → Formula
asked_of a b = on_any op.And a.asked b.asked

-- what is asked of two values that lie this far apart, either way, with this bound: they lie farther apart, or the bound is 0
abbrev pub apart : (d e b : Formula) → Formula
apart d e b =
    on_both op.Or (on_both (op.Compare Greater) d b) (on_both op.Or (on_both (op.Compare Greater) e b) (on_both (op.Compare LessEqual) b (thousandths (pos 0))))

-- what is asked of a relation, by the bound of its two values together
abbrev pub decided : (v w b : Formula) → Formula
decided v w Nothing = Nothing
decided v w b = apart (on_both op.Sub v w) (on_both op.Sub w v) b

-- the bound of an operator on two numbers
abbrev pub bound_by : BinaryOp → Beside → Beside → Formula
bound_by op.Mul a b = product_bound a.bound a.value b.bound b.value
bound_by op.Div a b = quotient_bound a.bound a.value (divisor_of b.value)
bound_by o a b = on_any op.Add a.bound b.bound

-- an operator on two numbers
abbrev pub calculated : BinaryOp → Beside → Beside → Beside
calculated o a b = record { value = on_both o a.value b.value; bound = bound_by o a b; asked = asked_of a b }

-- an operator on two values
abbrev pub combined : BinaryOp → Beside → Beside → Beside
combined op.And a b = truth_where (asked_of a b)
combined op.Or a b = truth_where (asked_of a b)
combined (op.Compare r) a b = truth_where (on_any op.And (asked_of a b) (decided a.value b.value (on_any op.Add a.bound b.bound)))
combined o a b = calculated o a b

-- ---- expressions

-- a sign in front of the last value
abbrev pub front_last : Prefix → List Beside → Option (List Beside)
front_last p [] = None
front_last p (a ∷ s) = Some (signed_value p a ∷ s)

-- an operator between the last two values
abbrev pub between_last : BinaryOp → List Beside → Option (List Beside)
between_last o [] = None
between_last o (b ∷ []) = None
between_last o (b ∷ a ∷ s) = Some (combined o a b ∷ s)

-- a variable of the text
abbrev pub variable_value : List Variable → List ℕ → ℕ → Beside
variable_value vs name e = within (Plain (Named name e)) (bound_of (variable_of vs e name) (kind_in vs (variable_of vs e name)))

-- the values that are there behind a part of an expression, the last one first
abbrev pub behind : List Variable → Piece → List Beside → Option (List Beside)
behind vs (piece.Number l) s = Some (exactly (Plain (Number l)) ∷ s)
behind vs (piece.Truth b) s = Some (truth_where Nothing ∷ s)
behind vs (piece.Variable name e) s = Some (variable_value vs name e ∷ s)
behind vs (piece.Front p) s = front_last p s
behind vs (piece.Between o) s = between_last o s

-- what comes of values, if there are some
abbrev pub and_behind : {A : Type 0} → (List Beside → Option A) → Option (List Beside) → Option A
and_behind f None = None
and_behind f (Some s) = f s

-- the values that are there behind all parts
abbrev pub all_behind : List Variable → List Piece → List Beside → Option (List Beside)
all_behind vs [] s = Some s
all_behind vs (p ∷ ps) s = and_behind (all_behind vs ps) (behind vs p s)

-- the only value
abbrev pub only : List Beside → Option Beside
only (a ∷ []) = Some a
only s = None

-- the value of an expression, with its bound and what is asked
unfoldable pub beside_of : List Variable → Source → Option Beside
beside_of vs e = and_behind only (all_behind vs (parts e) [])

-- what is asked of a bound: it is this many thousandths at most
abbrev pub at_most : ℤ → Formula → Formula
at_most n Nothing = Nothing
at_most n b = on_both (op.Compare LessEqual) b (thousandths n)

-- a bound as an expression; one that is too large is asked for before
abbrev pub bound_value : Formula → Source
bound_value (This e) = e
bound_value b = Plain (Number (Thousandths (pos 0)))
