-- Expressions as exact fractions of what they are made of: numbers are put together before anything is cut off.
use Rattle.std.specs.Prelude.{ℕ, zero, suc, pos, ◌*◌, ◌/◌, ◌%◌, ◌==◌, ◌||◌, ◌&&◌, nat_le, int_lt, unsigned_abs, not, Bool, true, false, if◌then◌else◌, List, [], ◌∷◌, Option, Some, None, slice_get}
use Rattle.std.specs.List.{list_any}
use Rattle.vcm_num.specs.declared.number.Kind.{Kind}
use Rattle.vcm_num.specs.declared.number.Kind.TheVariants as kinds
use Rattle.vcm_num.specs.declared.number.Literal.{Literal}
use Rattle.vcm_num.specs.declared.number.Literal.TheVariants.{Int, Thousandths}
use Rattle.vcm_spec.specs.declared.expression.BinaryOp.{BinaryOp}
use Rattle.vcm_spec.specs.declared.expression.BinaryOp.TheVariants as op
use Rattle.vcm_spec.specs.Expression.{product_kind, binary_kind}
use Rattle.vcm_spec.specs.Setup.{Variable, kinds_of}
use Rattle.vcm_items.specs.Names.{variable_of}
use Rattle.vcm_expr.specs.declared.expression.Prefix.{Prefix}
use Rattle.vcm_expr.specs.declared.expression.Prefix.TheVariants.{Minus, Plus, Not}
use Rattle.vcm_expr.specs.declared.expression.Term.TheVariants.{Number, Truth, Variable as Named}
use Rattle.vcm_expr.specs.declared.expression.Piece.{Piece}
use Rattle.vcm_expr.specs.declared.expression.Piece.TheVariants as piece
use Rattle.vcm_expr.specs.declared.typing.Want.{Want}
use Rattle.vcm_expr.specs.Source.{Source, Plain, parts}
use Rattle.vcm_events.specs.Joined.{joined}
use Rattle.vcm_events.specs.Unknown.{unknown}
use Rattle.vcm_templates.specs.declared.exact.Fraction.{Fraction}
use Rattle.vcm_templates.specs.declared.exact.Amount.{Amount}
use Rattle.vcm_templates.specs.declared.exact.TheConstants.{MOST_PART, DIVISOR_STEPS}
use Rattle.vcm_templates.specs.Expressions.{has_form}

-- ---- fractions

-- what divides both of two numbers, as much as does, by so many remainders at most
unfoldable pub divisor_in : ℕ → ℕ → ℕ → ℕ
divisor_in zero a b = a
divisor_in (suc n) a b = if b == 0 then a else divisor_in n b (a % b)

-- a fraction without what divides both its parts, where they aren't too large
abbrev pub fraction_by : Bool → ℕ → ℕ → ℕ → Option Fraction
fraction_by negative top bottom d =
    if bottom == 0 || d == 0 then None
    else if nat_le (top / d) MOST_PART then (if nat_le (bottom / d) MOST_PART then Some (record { negative = negative; top = top / d; bottom = bottom / d }) else None)
    else None

-- a fraction of two numbers
abbrev pub fraction_of : Bool → ℕ → ℕ → Option Fraction
fraction_of negative top bottom = fraction_by negative top bottom (divisor_in DIVISOR_STEPS top bottom)

-- whether one of two is below zero, and not the other
abbrev pub either_negative : Fraction → Fraction → Bool
either_negative f g = if f.negative then not g.negative else g.negative

-- the product of two fractions
abbrev pub multiplied : Fraction → Fraction → Option Fraction
multiplied f g = fraction_of (either_negative f g) (f.top * g.top) (f.bottom * g.bottom)

-- their quotient
abbrev pub divided : Fraction → Fraction → Option Fraction
divided f g = fraction_of (either_negative f g) (f.top * g.bottom) (f.bottom * g.top)

-- 1
abbrev pub one : Fraction
one = record { negative = false; top = 1; bottom = 1 }

-- ---- amounts

-- an expression of this kind as it stands
abbrev pub once : Kind → Source → Amount
once k e = record { factor = one; kind = k; of = Some e }

-- the same, if it is there
abbrev pub once_of : Kind → Option Source → Option Amount
once_of k None = None
once_of k (Some e) = Some (once k e)

-- a number of this kind, if there is one
abbrev pub number_of : Kind → Option Fraction → Option Amount
number_of k None = None
number_of k (Some f) = Some (record { factor = f; kind = k; of = None })

-- a number as it is written, which has no sign
abbrev pub literal_amount : Literal → Option Amount
literal_amount (Int n) = if int_lt n (pos 0) then None else number_of kinds.Int (fraction_of false (unsigned_abs n) 1)
literal_amount (Thousandths n) = if int_lt n (pos 0) then None else number_of kinds.Real (fraction_of false (unsigned_abs n) 1000)

-- a whole number as an expression
abbrev pub whole : ℕ → Source
whole n = Plain (Number (Int (pos n)))

-- a number of thousandths as an expression
abbrev pub thousandths : ℕ → Source
thousandths n = Plain (Number (Thousandths (pos n)))

-- ---- amounts as expressions of the language

-- an operator on two expressions, if both are there
abbrev pub joined_both : BinaryOp → Option Source → Option Source → Option Source
joined_both op None b = None
joined_both op (Some a) None = None
joined_both op (Some a) (Some b) = joined op a b

-- so many times an expression
abbrev pub times : ℕ → Source → Option Source
times n e = if n == 1 then Some e else joined op.Mul e (whole n)

-- the part of an expression that one of so many is
abbrev pub shared : ℕ → Option Source → Option Source
shared n None = None
shared n (Some e) = if n == 1 then Some e else joined op.Div e (whole n)

-- an expression, or what is below zero by it
abbrev pub signed : Bool → Option Source → Option Source
signed negative None = None
signed negative (Some e) = if negative then joined op.Sub (whole 0) e else Some e

-- thousandths of which there are so many in a number by so many: a number of thousandths if it is one, else a quotient
abbrev pub thousandths_by : ℕ → ℕ → Option Source
thousandths_by n bottom =
    if bottom == 0 then None
    else if n % bottom == 0 then Some (thousandths (n / bottom))
    else joined op.Div (thousandths n) (whole bottom)

-- a number without its sign
abbrev pub size_of : Kind → Fraction → Option Source
size_of kinds.Int f = Some (whole f.top)
size_of k f = thousandths_by (1000 * f.top) f.bottom

-- a fraction, without its sign, of an expression, or of 1
abbrev pub part_of : Kind → Fraction → Option Source → Option Source
part_of k f None = size_of k f
part_of k f (Some e) = shared f.bottom (times f.top e)

-- what an amount is as an expression
abbrev pub value_of : Amount → Option Source
value_of a = signed a.factor.negative (part_of a.kind a.factor a.of)

-- ---- operators

-- an expression of whole numbers as one of REALs, where one is wanted
abbrev pub as_kind : Kind → Kind → Source → Option Source
as_kind kinds.Real kinds.Int e = joined op.Mul e (thousandths 1000)
as_kind k l e = Some e

-- whether a fraction of whole numbers is none
abbrev pub is_broken : Kind → Fraction → Bool
is_broken kinds.Int f = not (f.bottom == 1)
is_broken k f = false

-- so many times an expression, as an amount
abbrev pub amount_of : Kind → Fraction → Option Source → Option Amount
amount_of k f None = None
amount_of k f (Some e) = Some (record { factor = f; kind = k; of = Some e })

-- a fraction of an expression of a kind, or of 1, as an amount of another kind; whole numbers aren't cut off
abbrev pub factored : Kind → Option Fraction → Kind → Option Source → Option Amount
factored k None l of = None
factored k (Some f) l None = if is_broken k f then None else number_of k (Some f)
factored k (Some f) l (Some e) = if is_broken k f then None else amount_of k f (as_kind k l e)

-- the kind of a product of numbers, or of a quotient
abbrev pub factor_kind : Kind → Kind → Option Kind
factor_kind kinds.Int kinds.Int = Some kinds.Int
factor_kind kinds.Int kinds.Real = Some kinds.Real
factor_kind kinds.Real kinds.Int = Some kinds.Real
factor_kind kinds.Real kinds.Real = Some kinds.Real
factor_kind k l = None

-- the product of two expressions that are no numbers: one of them is of whole numbers
abbrev pub product_by : Option Kind → Amount → Amount → Option Amount
product_by None a b = None
product_by (Some k) a b = once_of k (joined_both op.Mul (value_of a) (value_of b))

-- a product of this kind
abbrev pub product_of : Kind → Amount → Amount → Option Source → Option Source → Option Amount
product_of k a b x None = factored k (multiplied a.factor b.factor) a.kind x
product_of k a b None (Some y) = factored k (multiplied a.factor b.factor) b.kind (Some y)
product_of k a b (Some x) (Some y) = product_by (product_kind a.kind b.kind) a b

-- a product, if it has a kind
abbrev pub product : Option Kind → Amount → Amount → Option Amount
product None a b = None
product (Some k) a b = product_of k a b a.of b.of

-- a quotient of this kind: only a number divides
abbrev pub quotient_of : Kind → Amount → Amount → Option Source → Option Amount
quotient_of k a b None = factored k (divided a.factor b.factor) a.kind a.of
quotient_of k a b (Some y) = None

-- a quotient, if it has a kind
abbrev pub quotient : Option Kind → Amount → Amount → Option Amount
quotient None a b = None
quotient (Some k) a b = quotient_of k a b b.of

-- another operator, if it has a kind
abbrev pub otherwise : Option Kind → BinaryOp → Amount → Amount → Option Amount
otherwise None o a b = None
otherwise (Some k) o a b = once_of k (joined_both o (value_of a) (value_of b))

-- the kind of another operator on numbers or truth values: a whole number counts as a REAL beside one
abbrev pub kind_beside : BinaryOp → Kind → Kind → Option Kind
kind_beside o kinds.Int kinds.Real = binary_kind o kinds.Real kinds.Real
kind_beside o kinds.Real kinds.Int = binary_kind o kinds.Real kinds.Real
kind_beside o k l = binary_kind o k l

-- an operator on two amounts
abbrev pub between : BinaryOp → Amount → Amount → Option Amount
between op.Mul a b = product (factor_kind a.kind b.kind) a b
between op.Div a b = quotient (factor_kind a.kind b.kind) a b
between o a b = otherwise (kind_beside o a.kind b.kind) o a b

-- an amount of this kind on the other side of zero
abbrev pub opposite : Kind → Amount → Option Amount
opposite kinds.Bool a = None
opposite k a = Some (record a { factor = record a.factor { negative = not a.factor.negative } })

-- a sign in front of an amount
abbrev pub prefixed : Prefix → Amount → Option Amount
prefixed Minus a = opposite a.kind a
prefixed Plus a = Some a
prefixed Not a = None

-- a variable of this kind, if there is one
abbrev pub variable_amount : List ℕ → ℕ → Option Kind → Option Amount
variable_amount name e None = None
variable_amount name e (Some k) = Some (once k (Plain (Named name e)))

-- the kind of the variable at an index, if there is one
abbrev pub kind_in : List Variable → Option ℕ → Option Kind
kind_in vs None = None
kind_in vs (Some i) = slice_get (kinds_of vs) i

-- ---- expressions

-- one amount more, if there is one
abbrev pub pushed : Option Amount → List Amount → Option (List Amount)
pushed None s = None
pushed (Some a) s = Some (a ∷ s)

-- a sign in front of the last amount
abbrev pub front_last : Prefix → List Amount → Option (List Amount)
front_last p [] = None
front_last p (a ∷ s) = pushed (prefixed p a) s

-- an operator between the last two amounts
abbrev pub between_last : BinaryOp → List Amount → Option (List Amount)
between_last o [] = None
between_last o (b ∷ []) = None
between_last o (b ∷ a ∷ s) = pushed (between o a b) s

-- the amounts that are there behind a part of an expression, the last one first
abbrev pub behind : List Variable → Piece → List Amount → Option (List Amount)
behind vs (piece.Number l) s = pushed (literal_amount l) s
behind vs (piece.Truth b) s = Some (once kinds.Bool (Plain (Truth b)) ∷ s)
behind vs (piece.Variable name e) s = pushed (variable_amount name e (kind_in vs (variable_of vs e name))) s
behind vs (piece.Front p) s = front_last p s
behind vs (piece.Between o) s = between_last o s

-- what comes of amounts, if there are some
abbrev pub and_behind : {A : Type 0} → (List Amount → Option A) → Option (List Amount) → Option A
and_behind f None = None
and_behind f (Some s) = f s

-- the amounts that are there behind all parts
abbrev pub all_behind : List Variable → List Piece → List Amount → Option (List Amount)
all_behind vs [] s = Some s
all_behind vs (p ∷ ps) s = and_behind (all_behind vs ps) (behind vs p s)

-- the only amount, as an expression
abbrev pub only : List Amount → Option Source
only (a ∷ []) = value_of a
only s = None

-- an expression as an exact fraction of what it is made of, where it has one
unfoldable pub folded : List Variable → Source → Option Source
folded vs e = and_behind only (all_behind vs (parts e) [])

-- an expression that was found, or else one whose value isn't known
abbrev pub or_unknown : Option Source → Source
or_unknown None = unknown
or_unknown (Some e) = e

-- whether a part is a quotient
abbrev pub is_quotient : Piece → Bool
is_quotient (piece.Between op.Div) = true
is_quotient p = false

-- an expression as it is put at a place: as it is, where it is one of the language without quotients, else as an exact fraction
abbrev pub exact_at : List Variable → Want → Source → Source
exact_at vs want e = if has_form vs want e && not (list_any is_quotient (parts e)) then e else or_unknown (folded vs e)
