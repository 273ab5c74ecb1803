-- Statements with their expressions as exact fractions of what they are made of, and the texts whose values may lie beside the machine's.
use Rattle.std.specs.Prelude.{ℕ, ◌&&◌, ◌||◌, not, Bool, true, false, if◌then◌else◌, List, [], map, Option, Some, None}
use Rattle.std.specs.List.{list_all, list_any}
use Rattle.vcm_num.specs.declared.number.Kind.{Kind}
use Rattle.vcm_num.specs.declared.number.Kind.TheVariants as kinds
use Rattle.vcm_num.specs.declared.number.Literal.TheVariants.{Thousandths}
use Rattle.vcm_spec.specs.declared.expression.BinaryOp.TheVariants.{Mul}
use Rattle.vcm_spec.specs.Setup.{Variable}
use Rattle.vcm_items.specs.Names.{variable_of}
use Rattle.vcm_expr.specs.declared.expression.Piece.{Piece}
use Rattle.vcm_expr.specs.declared.expression.Piece.TheVariants.{Between, Number, Variable as Named}
use Rattle.vcm_expr.specs.declared.typing.Want.{Want}
use Rattle.vcm_expr.specs.declared.typing.Want.TheVariants as wants
use Rattle.vcm_expr.specs.Source.{Source, parts}
use Rattle.vcm_forms.specs.declared.statement.Coordinates.{Coordinates}
use Rattle.vcm_forms.specs.declared.statement.Offset.{Offset}
use Rattle.vcm_forms.specs.declared.statement.Rounds.{Rounds}
use Rattle.vcm_forms.specs.declared.statement.Target.{Target}
use Rattle.vcm_forms.specs.declared.statement.Form.{Form}
use Rattle.vcm_forms.specs.declared.statement.Form.TheVariants as form
use Rattle.vcm_macro.specs.declared.placed.Placed.{Placed}
use Rattle.vcm_events.specs.Unknown.{unknown}
use Rattle.vcm_events.specs.declared.spots.Spot.{Spot}
use Rattle.vcm_events.specs.declared.spots.Spot.TheVariants as spots
use Rattle.vcm_events.specs.Spots.{spot_named}
use Rattle.vcm_events.specs.Datums.{is_origin}
use Rattle.vcm_templates.specs.Besides.{carries_bounds}
use Rattle.vcm_templates.specs.Exact.{exact_at, is_quotient, kind_in}

-- ---- texts whose values may lie beside the machine's

-- whether a part is a product
abbrev pub is_product : Piece → Bool
is_product (Between Mul) = true
is_product p = false

-- whether a part is a number with a point
abbrev pub is_pointed : Piece → Bool
is_pointed (Number (Thousandths n)) = true
is_pointed p = false

-- whether the value of an expression may be cut off: it has a quotient, or a product and a number with a point
abbrev pub may_be_cut : Source → Bool
may_be_cut e = list_any is_quotient (parts e) || (list_any is_product (parts e) && list_any is_pointed (parts e))

-- whether one of a place's lengths may be
abbrev pub is_cut_place : Coordinates → Bool
is_cut_place p = may_be_cut p.x || (may_be_cut p.y || may_be_cut p.z)

-- whether an increment may be, if there is one
abbrev pub is_cut_increment : Option Source → Bool
is_cut_increment None = false
is_cut_increment (Some e) = may_be_cut e

-- whether a length of a shift may be
abbrev pub is_cut_shift : Offset → Bool
is_cut_shift o = may_be_cut o.length

-- whether an expression of a statement may be
abbrev pub is_cut : Form → Bool
is_cut (form.Assignment t value) = may_be_cut value
is_cut (form.Move p) = is_cut_place p
is_cut (form.Test c) = may_be_cut c
is_cut (form.Choose c) = may_be_cut c
is_cut (form.Repeat r) = may_be_cut r.initial || (may_be_cut r.limit || is_cut_increment r.increment)
is_cut (form.Feature l p d) = is_cut_place p
is_cut (form.Touch p d) = is_cut_place p
is_cut (form.Configure which value) = may_be_cut value
is_cut (form.Shift l os) = list_any is_cut_shift os
is_cut f = false

-- the same of a statement in its expansion
abbrev pub is_cut_placed : Placed → Bool
is_cut_placed p = is_cut p.statement.form

-- ---- statements

-- what a value of this kind is wanted as
abbrev pub want_of : Kind → Want
want_of kinds.Int = wants.Int
want_of kinds.Real = wants.Length
want_of kinds.Bool = wants.Bool

-- what a value is wanted as, by the kind of its variable: what has none is a whole number
abbrev pub want_by : Option Kind → Want
want_by None = wants.Int
want_by (Some k) = want_of k

-- what the value of an assignment is wanted as
abbrev pub want_at : List Variable → Target → Want
want_at vs t = want_by (kind_in vs (variable_of vs t.expansion t.name))

-- a length
abbrev pub exact_length : List Variable → Source → Source
exact_length vs e = exact_at vs wants.Length e

-- a place
abbrev pub exact_place : List Variable → Coordinates → Coordinates
exact_place vs p = record { x = exact_length vs p.x; y = exact_length vs p.y; z = exact_length vs p.z }

-- whether a kind is that of REALs
abbrev pub is_real : Option Kind → Bool
is_real (Some kinds.Real) = true
is_real k = false

-- whether a part has the machine's value whatever its variables have: it is no quotient and no REAL
abbrev pub is_steady : List Variable → Piece → Bool
is_steady vs (Named name e) = not (is_real (kind_in vs (variable_of vs e name)))
is_steady vs p = not (is_quotient p)

-- a length of a step, where that is the machine's: what lies beside it would add up from step to step
abbrev pub steady : List Variable → Source → Source
steady vs e = if not (carries_bounds vs) || list_all (is_steady vs) (parts e) then e else unknown

-- a length of a step
abbrev pub exact_step : List Variable → Source → Source
exact_step vs e = steady vs (exact_length vs e)

-- the lengths of a step
abbrev pub exact_steps : List Variable → Coordinates → Coordinates
exact_steps vs p = record { x = exact_step vs p.x; y = exact_step vs p.y; z = exact_step vs p.z }

-- a place of a feature, or one that is none to go to at once
abbrev pub exact_spot : List Variable → Coordinates → Option Spot → Coordinates
exact_spot vs p (Some spots.Step) = exact_steps vs p
exact_spot vs p (Some spots.Back) = exact_steps vs p
exact_spot vs p s = exact_place vs p

-- a shift; one to an origin stays
abbrev pub exact_shift : List Variable → Offset → Offset
exact_shift vs o = if is_origin o.length then o else record { axis = o.axis; length = exact_length vs o.length }

-- an increment, if there is one
abbrev pub exact_increment : List Variable → Option Source → Option Source
exact_increment vs None = None
exact_increment vs (Some e) = Some (exact_at vs wants.Int e)

-- rounds
abbrev pub exact_rounds : List Variable → Rounds → Rounds
exact_rounds vs r = record { variable = r.variable; initial = exact_at vs wants.Int r.initial; limit = exact_at vs wants.Int r.limit; increment = exact_increment vs r.increment }

-- a statement, behind these variables
abbrev pub exact_form : List Variable → Form → Form
exact_form vs (form.Assignment t value) = form.Assignment t (exact_at vs (want_at vs t) value)
exact_form vs (form.Move p) = form.Move (exact_place vs p)
exact_form vs (form.Test c) = form.Test (exact_at vs wants.Bool c)
exact_form vs (form.Choose c) = form.Choose (exact_at vs wants.Int c)
exact_form vs (form.Repeat r) = form.Repeat (exact_rounds vs r)
exact_form vs (form.Feature l p d) = form.Feature l (exact_spot vs p (spot_named l)) d
exact_form vs (form.Touch p d) = form.Touch (exact_place vs p) d
exact_form vs (form.Configure which value) = form.Configure which (exact_length vs value)
exact_form vs (form.Shift l os) = form.Shift l (map (exact_shift vs) os)
exact_form vs f = f
