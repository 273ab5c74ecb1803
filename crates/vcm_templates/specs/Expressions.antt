-- Expressions over what is carried.
use Rattle.std.specs.Prelude.{ℕ, ℤ, pos, Bool, true, false, if◌then◌else◌, List, [], ◌∷◌, Result, Ok, Err}
use Rattle.vcm_num.specs.declared.number.Literal.TheVariants.{Int}
use Rattle.vcm_lines.specs.declared.fault.FaultCode.{FaultCode}
use Rattle.vcm_spec.specs.declared.expression.BinaryOp.{BinaryOp}
use Rattle.vcm_spec.specs.declared.expression.BinaryOp.TheVariants.{Add, And, Or, Compare}
use Rattle.vcm_spec.specs.declared.expression.Relation.TheVariants.{Equal, NotEqual}
use Rattle.vcm_spec.specs.Setup.{Variable}
use Rattle.vcm_expr.specs.declared.expression.Term.{Term}
use Rattle.vcm_expr.specs.declared.expression.Term.TheVariants.{Number, Truth}
use Rattle.vcm_expr.specs.declared.typing.Want.{Want}
use Rattle.vcm_expr.specs.Source.{Source, Plain, Pair, is_small}
use Rattle.vcm_expr.specs.Typing.{typed_for}
use Rattle.vcm_templates.specs.declared.carried.Carried.{Carried}
use Rattle.vcm_templates.specs.declared.carried.Carried.TheVariants as carried
use Rattle.vcm_templates.specs.declared.carried.Item.TheVariants as items
use Rattle.vcm_templates.specs.declared.lengths.Kept.{Kept}
use Rattle.vcm_templates.specs.Carried.{carried_term, item_term, frame_of}
use Rattle.vcm_events.specs.Joined.{pair}

-- ---- what is asked

-- a whole number
abbrev pub number : ℤ → Term
number n = Number (Int n)

-- a truth value
abbrev pub truth : Bool → Source
truth b = Plain (Truth b)

-- both of two truth values; what gets too large is false, so that nothing is tried
abbrev pub both : Source → Source → Source
both a b = if is_small (Pair And a b) then Pair And a b else truth false

-- one of two truth values; what gets too large is false, so that nothing is tried
abbrev pub either : Source → Source → Source
either a b = if is_small (Pair Or a b) then Pair Or a b else truth false

-- what is carried is known: it came to be known in this epoch
abbrev pub is_current : Carried → Source
is_current c = pair (Compare Equal) (carried_term c) (carried_term carried.Epoch)

-- all of these are known
abbrev pub are_current : List Carried → Source
are_current [] = truth true
are_current (c ∷ cs) = both (is_current c) (are_current cs)

-- the current frame is known
abbrev pub knows_frame : Source
knows_frame = pair (Compare NotEqual) (carried_term carried.Frame) (number (pos 0))

-- a variable at an index is known: its value came to be known in this epoch of values
abbrev pub is_known : ℕ → Source
is_known i = pair (Compare Equal) (item_term items.Known i) (carried_term carried.Values)

-- what is carried of a feature in the current frame
abbrev pub in_frame : Source
in_frame = pair Add (carried_term carried.Frame) (carried_term carried.Features)

-- a place that is kept is one of the current frame
abbrev pub is_kept_here : Kept → Source
is_kept_here k = pair (Compare Equal) (carried_term (frame_of k)) (carried_term carried.Frame)

-- ---- expressions of the text

-- whether a result is one
abbrev pub is_found : {A : Type 0} → Result A FaultCode → Bool
is_found (Ok x) = true
is_found (Err c) = false

-- whether an expression has a value at this place, behind these variables: it is one of the language. Its quotients are exact fractions of what they are made of
abbrev pub has_form : List Variable → Want → Source → Bool
has_form vs want e = is_found (typed_for vs want e)
