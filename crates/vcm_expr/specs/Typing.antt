-- The typed tree of an expression as it is written: names become variables, whole numbers are scaled, and unary plus falls away.
use Rattle.std.specs.Prelude.{ℕ, Bool, true, false, List, slice_get, Option, Some, None, Result, Ok, Err}
use Rattle.vcm_num.specs.declared.number.Kind.{Kind}
use Rattle.vcm_num.specs.declared.number.Kind.TheVariants.{Int, Real, Bool as Truth}
use Rattle.vcm_num.specs.declared.number.Literal.TheVariants.{Int as Whole, Thousandths as Exact}
use Rattle.vcm_lines.specs.declared.fault.FaultCode.{FaultCode}
use Rattle.vcm_lines.specs.declared.fault.FaultCode.TheVariants.{UnknownName, BadType}
use Rattle.vcm_spec.specs.declared.expression.Operand.TheVariants.{Integer, Thousandths, Truth as TruthValue, Variable as TheVariable}
use Rattle.vcm_spec.specs.declared.expression.UnaryOp.TheVariants.{Neg, Scale, Not as Negation}
use Rattle.vcm_spec.specs.declared.expression.BinaryOp.{BinaryOp}
use Rattle.vcm_spec.specs.declared.expression.BinaryOp.TheVariants.{Mul, Div}
use Rattle.vcm_spec.specs.Expression.{Tree, Value, One, Two, unary_kind, binary_kind}
use Rattle.vcm_expr.specs.declared.expression.Prefix.{Prefix}
use Rattle.vcm_expr.specs.declared.expression.Prefix.TheVariants.{Minus, Plus, Not}
use Rattle.vcm_expr.specs.declared.expression.Term.{Term}
use Rattle.vcm_expr.specs.declared.expression.Term.TheVariants.{Number, Truth as Constant, Variable as Named}
use Rattle.vcm_expr.specs.declared.typing.Want.{Want}
use Rattle.vcm_expr.specs.declared.typing.Want.TheVariants.{Int as WantInt, Length, Bool as WantBool}
use Rattle.vcm_expr.specs.Source.{Source, Plain, Prefixed, Pair}
use Rattle.vcm_spec.specs.Setup.{Variable, kinds_of}
use Rattle.vcm_items.specs.Names.{variable_of}

-- a typed tree and its kind
pub record Kinded : Type 0 where
  pub tree : Tree
  pub kind : Kind

-- a tree and its kind, as a result
abbrev pub kinded : Tree → Kind → Result Kinded FaultCode
kinded t k = Ok (record { tree = t; kind = k })

-- a variable with its kind, if there is one
abbrev pub variable_by : ℕ → Option Kind → Result Kinded FaultCode
variable_by i None = Err UnknownName
variable_by i (Some k) = kinded (Value (TheVariable i)) k

-- the variable that a name stands for, if there is one
abbrev pub named_by : List Variable → Option ℕ → Result Kinded FaultCode
named_by vs None = Err UnknownName
named_by vs (Some i) = variable_by i (slice_get (kinds_of vs) i)

-- the tree of a leaf and its kind; a name that stands for no variable is unknown
abbrev pub leaf_of : List Variable → Term → Result Kinded FaultCode
leaf_of vs (Number (Whole n)) = kinded (Value (Integer n)) Int
leaf_of vs (Number (Exact n)) = kinded (Value (Thousandths n)) Real
leaf_of vs (Constant b) = kinded (Value (TruthValue b)) Truth
leaf_of vs (Named name expansion) = named_by vs (variable_of vs expansion name)

-- a tree of this kind, if it has one
abbrev pub typed_as : Option Kind → Tree → Result Kinded FaultCode
typed_as None t = Err BadType
typed_as (Some k) t = kinded t k

-- what stands under a sign or a negation: a sign takes a number, a plus leaves it as it is, a negation takes a truth value
abbrev pub prefixed_by : Prefix → Tree → Kind → Result Kinded FaultCode
prefixed_by Minus t k = typed_as (unary_kind Neg k) (One Neg t)
prefixed_by Plus t k = typed_as (unary_kind Neg k) t
prefixed_by Not t k = typed_as (unary_kind Negation k) (One Negation t)

-- whether an operand of the first kind is scaled beside one of the second: a whole number beside one of thousandths is,
-- but for products and quotients
abbrev pub is_scaled : BinaryOp → Kind → Kind → Bool
is_scaled Mul k l = false
is_scaled Div k l = false
is_scaled op Int Real = true
is_scaled op k l = false

-- an operand as it stands, or scaled
abbrev pub scaled : Bool → Tree → Tree
scaled true t = One Scale t
scaled false t = t

-- the kind of an operand as it stands, or scaled
abbrev pub scaled_kind : Bool → Kind → Kind
scaled_kind true k = Real
scaled_kind false k = k

-- two operands under an operator, each scaled where it has to be
abbrev pub pair_by : BinaryOp → Tree → Kind → Tree → Kind → Result Kinded FaultCode
pair_by op t k u l =
    typed_as (binary_kind op (scaled_kind (is_scaled op k l) k) (scaled_kind (is_scaled op l k) l))
    (Two op (scaled (is_scaled op k l) t) (scaled (is_scaled op l k) u))

-- what comes after a typed tree, or its fault
abbrev pub and_then : {A : Type 0} → Result Kinded FaultCode → (Tree → Kind → Result A FaultCode) → Result A FaultCode
and_then (Ok p) go = go p.tree p.kind
and_then (Err e) go = Err e

-- the typed tree of an expression and its kind, or the leftmost fault: the left operand's, the right one's, the operator's
abbrev pub typed_of : List Variable → Source → Result Kinded FaultCode
typed_of vs (Plain t) = leaf_of vs t
typed_of vs (Prefixed op a) = and_then (typed_of vs a) (prefixed_by op)
typed_of vs (Pair op a b) =
    and_then (typed_of vs a) (λ t k. and_then (typed_of vs b) (pair_by op t k))

-- what a place takes: a length takes a number of thousandths, and a whole number scaled
abbrev pub wanted_by : Want → Tree → Kind → Result Tree FaultCode
wanted_by WantInt t Int = Ok t
wanted_by Length t Int = Ok (One Scale t)
wanted_by Length t Real = Ok t
wanted_by WantBool t Truth = Ok t
wanted_by _ t _ = Err BadType

-- the kind that a place takes
abbrev pub wanted_kind : Want → Kind
wanted_kind WantInt = Int
wanted_kind Length = Real
wanted_kind WantBool = Truth

-- the typed tree of an expression in a place, or its fault
abbrev pub typed_for : List Variable → Want → Source → Result Tree FaultCode
typed_for vs want s = and_then (typed_of vs s) (wanted_by want)
