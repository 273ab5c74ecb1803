-- How statements are put: what is asked first, what is done where it is known, what is told elsewhere.
use Rattle.std.specs.Prelude.{ℕ, ℤ, pos, codes, Bool, true, false, if◌then◌else◌, List, [], ◌∷◌, ◌++◌, Option, Some, None}
use Rattle.std.specs.List.{flat_map}
use Rattle.vcm_num.specs.declared.number.Kind.{Kind}
use Rattle.vcm_num.specs.declared.number.Kind.TheVariants as kinds
use Rattle.vcm_spec.specs.declared.expression.BinaryOp.TheVariants.{Add, Mul, Compare}
use Rattle.vcm_spec.specs.declared.expression.Relation.TheVariants.{Equal}
use Rattle.vcm_spec.specs.Setup.{Variable}
use Rattle.vcm_items.specs.Names.{variable_of}
use Rattle.vcm_expr.specs.declared.expression.Piece.{Piece}
use Rattle.vcm_expr.specs.declared.expression.Piece.TheVariants.{Variable as Named}
use Rattle.vcm_expr.specs.Source.{Source, Plain, parts}
use Rattle.vcm_forms.specs.declared.statement.Form.{Form}
use Rattle.vcm_forms.specs.declared.statement.Form.TheVariants.{Declaration, Assignment, Test, Otherwise, TestEnd, Leap}
use Rattle.vcm_remarks.specs.declared.remark.Remark.{Remark}
use Rattle.vcm_remarks.specs.declared.remark.Remark.TheVariants.{NotTried, BeginsElsewhere, Loses, Ends}
use Rattle.vcm_remarks.specs.declared.remark.Cause.{Cause}
use Rattle.vcm_remarks.specs.declared.remark.Cause.TheVariants as causes
use Rattle.vcm_templates.specs.declared.guarded.Guarded.{Guarded}
use Rattle.vcm_templates.specs.declared.carried.Carried.{Carried}
use Rattle.vcm_templates.specs.declared.carried.Carried.TheVariants as carried
use Rattle.vcm_templates.specs.declared.carried.Item.{Item}
use Rattle.vcm_templates.specs.declared.carried.Item.TheVariants as items
use Rattle.vcm_templates.specs.declared.carried.TheConstants.{IMPLICIT, FEATURES_STEP, UNKNOWN_SENSOR}
use Rattle.vcm_templates.specs.Carried.{carried_target, carried_term, item_name, item_target}
use Rattle.vcm_templates.specs.Expressions.{number, truth, both, is_known}
use Rattle.vcm_templates.specs.declared.besides.Formula.{Formula}
use Rattle.vcm_templates.specs.declared.besides.Formula.TheVariants.{Nothing, This, TooLarge}
use Rattle.vcm_templates.specs.declared.besides.Beside.{Beside}
use Rattle.vcm_templates.specs.declared.templates.TheConstants.{NEAR}
use Rattle.vcm_templates.specs.Besides.{carries_bounds, beside_of, at_most, bound_value}
use Rattle.vcm_events.specs.Joined.{pair}
use Rattle.vcm_num.specs.declared.number.Literal.TheVariants.{Thousandths}
use Rattle.vcm_expr.specs.declared.expression.Term.TheVariants.{Number}

-- ---- single statements

-- a statement of a line, in an expansion
abbrev pub stands : ℕ → ℕ → Form → Guarded
stands line e form = record { placed = record { statement = record { line = line; form = form }; expansion = e }; remark = None }

-- a statement of a line with a remark
abbrev pub remarks : ℕ → ℕ → Form → Remark → Guarded
remarks line e form r = record { placed = record { statement = record { line = line; form = form }; expansion = e }; remark = Some r }

-- what is carried gets a value
abbrev pub set : ℕ → Carried → Source → Guarded
set line c e = stands line 0 (Assignment (carried_target c) e)

-- what is carried of an item gets a value
abbrev pub set_item : ℕ → Item → ℕ → Source → Guarded
set_item line k i e = stands line 0 (Assignment (item_target k i) e)

-- what is carried isn't known any more, and is told
abbrev pub lose : ℕ → Carried → Cause → Guarded
lose line c why = remarks line 0 (Assignment (carried_target c) (Plain (number (pos 0)))) (Loses why)

-- what is carried is known in this epoch
abbrev pub know : ℕ → Carried → Guarded
know line c = set line c (Plain (carried_term carried.Epoch))

-- what is carried goes up
abbrev pub raise : ℕ → Carried → ℤ → Guarded
raise line c n = set line c (pair Add (carried_term c) (number n))

-- the variable that carries something of an item is declared: a whole number
abbrev pub declare_item : ℕ → Item → ℕ → Guarded
declare_item line k i = stands line (item_target k i).expansion (Declaration kinds.Int (item_name k ∷ []))

-- ---- how far values may lie from the machine's

-- whether how far values of this kind may lie is carried: of REALs, in a text that carries it
abbrev pub is_carried : List Variable → Kind → Bool
is_carried vs kinds.Real = carries_bounds vs
is_carried vs k = false

-- the variable that carries it for the variable at an index is declared, if it is carried
unfoldable pub declares_bound : ℕ → Bool → ℕ → List Guarded
declares_bound line true i = stands line (item_target items.Beside i).expansion (Declaration kinds.Real (item_name items.Beside ∷ [])) ∷ []
declares_bound line false i = []

-- a bound as an expression
abbrev pub bound_in : Option Beside → Source
bound_in (Some b) = bound_value b.bound
bound_in None = bound_value Nothing

-- the variable of this kind at an index lies so far from the machine's as this value
unfoldable pub sets_bound : ℕ → List Variable → Kind → ℕ → Source → List Guarded
sets_bound line vs k i e = if is_carried vs k then set_item line items.Beside i (bound_in (beside_of vs e)) ∷ [] else []

-- the variable of this kind at an index lies as far from the machine's as a length may
unfoldable pub sets_near : ℕ → List Variable → Kind → ℕ → List Guarded
sets_near line vs k i = if is_carried vs k then set_item line items.Beside i (Plain (Number (Thousandths NEAR))) ∷ [] else []

-- ---- motions

-- a motion isn't tried, and the probe doesn't stand where the machine's does
abbrev pub untried : ℕ → Guarded
untried line = remarks line 0 (Assignment (carried_target carried.Place) (Plain (number (pos 0)))) NotTried

-- what is asked for is known: this, and the variables of expressions
abbrev pub asks : ℕ → Source → Guarded
asks line e = set line carried.Asked e

-- and the variable at an index, if there is one
abbrev pub asks_variable : ℕ → Option ℕ → List Guarded
asks_variable line None = []
asks_variable line (Some i) = asks line (both (Plain (carried_term carried.Asked)) (is_known i)) ∷ []

-- and the variable that a part of an expression is, if it is one
abbrev pub asks_piece : ℕ → List Variable → Piece → List Guarded
asks_piece line vs (Named name e) = asks_variable line (variable_of vs e name)
asks_piece line vs p = []

-- and all variables of an expression
unfoldable pub asks_variables : ℕ → List Variable → Source → List Guarded
asks_variables line vs e = flat_map (asks_piece line vs) (parts e)

-- and a formula; of one that is too large it isn't known
abbrev pub asks_formula : ℕ → Formula → List Guarded
asks_formula line Nothing = []
asks_formula line (This e) = asks line (both (Plain (carried_term carried.Asked)) e) ∷ []
asks_formula line TooLarge = asks line (truth false) ∷ []

-- and that a value lies this many thousandths from the machine's at most, with what is asked of it besides
abbrev pub asks_near : ℕ → ℤ → Option Beside → List Guarded
asks_near line n None = asks line (truth false) ∷ []
asks_near line n (Some b) = asks_formula line (at_most n b.bound) ++ asks_formula line b.asked

-- and that the value of an expression does, in a text that carries how far its values may lie
unfoldable pub asks_within : ℕ → List Variable → ℤ → Source → List Guarded
asks_within line vs n e = if carries_bounds vs then asks_near line n (beside_of vs e) else []

-- and a value: all its variables, and that it lies this many thousandths from the machine's at most
abbrev pub asks_value : ℕ → List Variable → ℤ → Source → List Guarded
asks_value line vs n e = asks_variables line vs e ++ asks_within line vs n e

-- and a length
unfoldable pub asks_all : ℕ → List Variable → Source → List Guarded
asks_all line vs e = asks_value line vs NEAR e

-- where it is known
abbrev pub where_known : ℕ → Guarded
where_known line = stands line 0 (Test (Plain (carried_term carried.Asked)))

-- where it isn't
abbrev pub elsewhere : ℕ → Guarded
elsewhere line = stands line 0 Otherwise

-- in both cases again
abbrev pub ends : ℕ → Guarded
ends line = stands line 0 TestEnd

-- a motion where it is known: it begins elsewhere where the probe doesn't stand where the machine's does
unfoldable pub goes : ℕ → List Guarded
goes line =
    where_known line
    ∷ stands line 0 (Test (pair (Compare Equal) (carried_term carried.Place) (number (pos 0))))
    ∷ remarks line 0 (Assignment (carried_target carried.Place) (Plain (number (pos 1)))) BeginsElsewhere
    ∷ ends line ∷ []

-- behind it the probe stands where the machine's does; elsewhere the motion isn't tried
unfoldable pub gone : ℕ → List Guarded
gone line = set line carried.Place (Plain (number (pos 1))) ∷ elsewhere line ∷ untried line ∷ ends line ∷ []

-- a point that isn't tried: its measurement is none of a single point
unfoldable pub untried_point : ℕ → List Guarded
untried_point line = untried line ∷ set line carried.Single (Plain (number (pos 0))) ∷ raise line carried.Points (pos 1) ∷ []

-- behind a point
unfoldable pub touched : ℕ → List Guarded
touched line =
    raise line carried.Points (pos 1) ∷ set line carried.Place (Plain (number (pos 1))) ∷ elsewhere line ∷ (untried_point line ++ ends line ∷ [])

-- ---- losses

-- no value, and no state of the machine, is known any more
unfoldable pub lose_epoch : ℕ → List Guarded
lose_epoch line =
    remarks line 0 (Assignment (carried_target carried.Epoch) (pair Add (carried_term carried.Epoch) (number (pos 1)))) (Loses causes.All)
    ∷ raise line carried.Values (pos 1)
    ∷ raise line carried.Features FEATURES_STEP
    ∷ []

-- no frame, no place and no sensor is known any more
unfoldable pub lose_places : ℕ → List Guarded
lose_places line =
    set line carried.Frame (Plain (number (pos 0)))
    ∷ set line carried.Floor (Plain (carried_term carried.Latest))
    ∷ set line carried.Place (Plain (number (pos 0)))
    ∷ set line carried.Sensor (Plain (number UNKNOWN_SENSOR))
    ∷ []

-- nothing is known any more
unfoldable pub lose_all : ℕ → List Guarded
lose_all line = lose_epoch line ++ lose_places line

-- the way to the end of the program, where it isn't known how it goes on
abbrev pub to_the_end : ℕ → Guarded
to_the_end line = remarks line IMPLICIT (Leap (codes "END")) Ends

-- ---- frames

-- the current frame isn't known
abbrev pub lose_frame : ℕ → Guarded
lose_frame line = lose line carried.Frame causes.Frame

-- the current frame is a new one
unfoldable pub new_frame : ℕ → List Guarded
new_frame line = raise line carried.Latest (pos 1) ∷ set line carried.Frame (Plain (carried_term carried.Latest)) ∷ []

-- and is saved at an index
unfoldable pub saves_frame : ℕ → ℕ → List Guarded
saves_frame line i = new_frame line ++ set_item line items.Saved i (pair Mul (carried_term carried.Frame) (carried_term carried.Saving)) ∷ []

-- a frame that is saved at an index isn't known, nor is the current one
unfoldable pub frame_gone : ℕ → Option ℕ → List Guarded
frame_gone line None = lose_frame line ∷ []
frame_gone line (Some i) = lose_frame line ∷ set_item line items.Saved i (Plain (number (pos 0))) ∷ []
