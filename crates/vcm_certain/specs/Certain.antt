-- Which texts are read in one way, and lose nothing: they are put as they are written.
use Rattle.std.specs.Prelude.{ℕ, ℤ, pos, ◌&&◌, ◌||◌, not, nat_eq, nat_lt, codes, Bool, true, false, if◌then◌else◌, List, [], ◌∷◌, ◌++◌, length, take, drop, Option, Some, None}
use Rattle.std.specs.List.{list_all, list_any}
use Rattle.std.specs.Str.{bytes_eq}
use Rattle.std.specs.Ordering.{int_eq}
use Rattle.vcm_num.specs.declared.axis.Axis.{Axis}
use Rattle.vcm_num.specs.declared.number.Literal.TheVariants.{Int}
use Rattle.vcm_spec.specs.declared.expression.BinaryOp.TheVariants.{Div}
use Rattle.vcm_spec.specs.declared.words.Setting.{Setting}
use Rattle.vcm_spec.specs.declared.words.Setting.TheVariants as settings
use Rattle.vcm_spec.specs.Program.{is_same_name}
use Rattle.vcm_expr.specs.declared.expression.Term.{Term}
use Rattle.vcm_expr.specs.declared.expression.Term.TheVariants.{Number}
use Rattle.vcm_expr.specs.declared.expression.Piece.{Piece}
use Rattle.vcm_expr.specs.declared.expression.Piece.TheVariants.{Between, Variable}
use Rattle.vcm_expr.specs.Source.{Source, parts, leaf_in}
use Rattle.vcm_forms.specs.declared.statement.Target.{Target}
use Rattle.vcm_forms.specs.declared.statement.Coordinates.{Coordinates}
use Rattle.vcm_forms.specs.declared.statement.Offset.{Offset}
use Rattle.vcm_forms.specs.declared.statement.Rounds.{Rounds}
use Rattle.vcm_forms.specs.declared.statement.Form.{Form}
use Rattle.vcm_forms.specs.declared.statement.Form.TheVariants as form
use Rattle.vcm_macro.specs.declared.placed.Placed.{Placed}
use Rattle.vcm_events.specs.declared.event.Event.{Event}
use Rattle.vcm_events.specs.declared.event.Event.TheVariants as events
use Rattle.vcm_events.specs.Events.{event_named}
use Rattle.vcm_events.specs.declared.spots.Spot.{Spot}
use Rattle.vcm_events.specs.Spots.{spot_named, slanted_name}
use Rattle.vcm_num.specs.declared.limits.TheConstants.{DEEPEST_BLOCKS}
use Rattle.vcm_certain.specs.declared.certain.TheConstants.{FEATURE}

-- ---- what is sure

-- what is sure at a place in writing: the variables, settings and features that have a value there, how many of them there were where each block that is open
-- begins, the innermost first, and whether no label and no jump stands above
pub record Sure : Type 0 where
  pub given : List Target
  pub blocks : List ℕ
  pub straight : Bool

-- nothing is
abbrev pub nothing_sure : Sure
nothing_sure = record { given = []; blocks = []; straight = true }

-- whether two names are the same, in the same expansion
abbrev pub is_same : Target → Target → Bool
is_same a b = nat_eq a.expansion b.expansion && bytes_eq a.name b.name

-- whether something is among these
abbrev pub is_given : List Target → Target → Bool
is_given given t = list_any (is_same t) given

-- a setting, as something that is given
abbrev pub setting_target : Setting → Target
setting_target settings.Approach = record { name = codes "0APPROACH"; expansion = 0 }
setting_target settings.Search = record { name = codes "0SEARCH"; expansion = 0 }
setting_target settings.Retract = record { name = codes "0RETRACT"; expansion = 0 }
setting_target settings.Depth = record { name = codes "0DEPTH"; expansion = 0 }

-- and a feature
abbrev pub feature_target : List ℕ → Target
feature_target l = record { name = l; expansion = FEATURE }

-- ---- what a statement asks for

-- whether a part of an expression has the machine's value: it is no quotient, which is cut off, and no variable that may have none
abbrev pub is_sure_piece : List Target → Piece → Bool
is_sure_piece given (Between Div) = false
is_sure_piece given (Variable name e) = is_given given (record { name = name; expansion = e })
is_sure_piece given p = true

-- whether an expression has
abbrev pub is_sure_value : List Target → Source → Bool
is_sure_value given e = list_all (is_sure_piece given) (parts e)

-- whether a place has
abbrev pub is_sure_place : List Target → Coordinates → Bool
is_sure_place given p = is_sure_value given p.x && (is_sure_value given p.y && is_sure_value given p.z)

-- whether an increment has, or is left out
abbrev pub is_sure_increment : List Target → Option Source → Bool
is_sure_increment given None = true
is_sure_increment given (Some e) = is_sure_value given e

-- whether shifts have
abbrev pub are_sure_shifts : List Target → List Offset → Bool
are_sure_shifts given os = list_all (λ o. is_sure_value given o.length) os

-- whether the distances of points are set
abbrev pub are_set : List Target → Bool
are_set given =
    is_given given (setting_target settings.Approach) && (is_given given (setting_target settings.Search) && is_given given (setting_target settings.Retract))

-- whether a value is another number than 0
abbrev pub is_number : Option Term → Bool
is_number (Some (Number (Int n))) = not (int_eq n (pos 0))
is_number t = false

-- whether an event can't be one by which something is lost
abbrev pub is_kind_event : Event → Bool
is_kind_event events.Mode = true
is_kind_event events.OwnPoints = true
is_kind_event events.Unit = true
is_kind_event events.Angle = true
is_kind_event events.Scanning = true
is_kind_event events.Clearance = true
is_kind_event events.Compensation = true
is_kind_event e = false

-- whether an event changes nothing where nothing asks for it: the plane, which polar places alone ask for, a datum, which frames by it alone do, and the begin of
-- the block of a CASE; what asks isn't put as it is written
abbrev pub is_quiet_event : Event → Bool
is_quiet_event events.Plane = true
is_quiet_event events.Bind = true
is_quiet_event events.CaseBegins = true
is_quiet_event e = false

-- whether an assignment loses nothing: an event by which something is known again, or that changes nothing, or a value that the machine has
abbrev pub is_sure_assignment : List Target → Option Event → Source → Bool
is_sure_assignment given None value = is_sure_value given value
is_sure_assignment given (Some e) value = is_quiet_event e || (is_kind_event e && is_number (leaf_in value))

-- whether a statement about a feature or a frame by its name loses nothing: OBTAIN, or the definition of a datum
abbrev pub loses_nothing : Option Event → Bool
loses_nothing None = true
loses_nothing (Some e) = is_quiet_event e

-- whether the name of a feature is one of the text
abbrev pub is_own : Option Spot → Bool
is_own None = true
is_own (Some s) = false

-- how wide the tip is, which is no shift; a slanted point isn't put as it is written
abbrev pub is_width : List Offset → Bool
is_width (o ∷ []) = true
is_width os = false

-- whether there are shifts
abbrev pub has_shifts : List Offset → Bool
has_shifts [] = false
has_shifts (o ∷ os) = true

-- whether a TRANS is sure
abbrev pub is_sure_shift : List Target → List ℕ → List Offset → Bool
is_sure_shift given l os = if is_same_name slanted_name l then is_width os else has_shifts os && are_sure_shifts given os

-- whether a point is sure, in a text that has frames or not: the direction of its feature is read in two ways where there are frames
abbrev pub is_sure_point : Bool → List Target → Coordinates → Option Axis → Bool
is_sure_point frames given p None = not frames && (are_set given && is_sure_place given p)
is_sure_point frames given p (Some d) = are_set given && is_sure_place given p

-- whether a statement is read in one way and loses nothing, where this is given
abbrev pub is_sure : Bool → List Target → Form → Bool
is_sure frames given (form.Assignment t value) = is_sure_assignment given (event_named t.name) value
is_sure frames given (form.Move p) = is_sure_place given p
is_sure frames given (form.Test c) = is_sure_value given c
is_sure frames given (form.Choose c) = is_sure_value given c
is_sure frames given (form.Repeat r) = is_sure_value given r.initial && (is_sure_value given r.limit && is_sure_increment given r.increment)
is_sure frames given (form.Configure which e) = is_sure_value given e
is_sure frames given (form.Feature l p d) = is_own (spot_named l) && is_sure_place given p
is_sure frames given (form.Measure l) = is_given given (feature_target l)
is_sure frames given (form.Touch p d) = is_sure_point frames given p d
is_sure frames given (form.Shift l os) = is_sure_shift given l os
is_sure frames given (form.Query t side l word) = not frames && loses_nothing (event_named t.name)
is_sure frames given (form.Report side l) = not frames
is_sure frames given f = true

-- ---- what a statement gives

-- a variable, if it is the index of no loop: behind a loop its index has another value on some machines
abbrev pub gives_variable : List Target → Target → List Target
gives_variable indices t = if is_given indices t then [] else t ∷ []

-- what an assignment gives
abbrev pub assignment_gives : List Target → Target → Option Event → List Target
assignment_gives indices t None = gives_variable indices t
assignment_gives indices t (Some e) = []

-- what a statement gives
abbrev pub gives : List Target → Form → List Target
gives indices (form.Assignment t value) = assignment_gives indices t (event_named t.name)
gives indices (form.Query t side l word) = gives_variable indices t
gives indices (form.Configure which e) = setting_target which ∷ []
gives indices (form.Feature l p d) = feature_target l ∷ []
gives indices f = []

-- the same, where no label and no jump stands above: else it may have been passed over
abbrev pub gives_if : Bool → List Target → List Target
gives_if true ts = ts
gives_if false ts = []

-- whether a statement is a label or a jump
abbrev pub is_jump : Form → Bool
is_jump (form.Mark name) = true
is_jump (form.Leap name) = true
is_jump f = false

-- one more block is open, behind so much that is given; deeper ones are refused
abbrev pub one_deeper : ℕ → List ℕ → List ℕ
one_deeper n blocks = if nat_lt (length blocks) DEEPEST_BLOCKS then n ∷ blocks else blocks

-- a block begins, with this given in it
abbrev pub opened : Sure → List Target → Sure
opened s ts = record s { given = s.given ++ ts; blocks = one_deeper (length s.given) s.blocks }

-- how much was given where the innermost block begins
abbrev pub given_before : List ℕ → ℕ → ℕ
given_before [] n = n
given_before (m ∷ ms) n = m

-- another branch of the innermost block begins: what its first ones give isn't sure
abbrev pub branched : Sure → Sure
branched s = record s { given = take (given_before s.blocks (length s.given)) s.given }

-- the innermost block ends
abbrev pub closed : Sure → Sure
closed s = record (branched s) { blocks = drop 1 s.blocks }

-- something more is given
abbrev pub with_given : List Target → Sure → Form → Sure
with_given indices s f = record s { given = s.given ++ gives_if s.straight (gives indices f); straight = s.straight && not (is_jump f) }

-- what is sure behind a statement
abbrev pub sure_behind : List Target → Sure → Form → Sure
sure_behind indices s (form.Test c) = opened s []
sure_behind indices s (form.Choose c) = opened s []
sure_behind indices s (form.Repeat r) = opened s (r.variable ∷ [])
sure_behind indices s form.Otherwise = branched s
sure_behind indices s (form.Case n) = branched s
sure_behind indices s form.CaseEnd = branched s
sure_behind indices s form.Default = branched s
sure_behind indices s form.TestEnd = closed s
sure_behind indices s form.ChooseEnd = closed s
sure_behind indices s form.RepeatEnd = closed s
sure_behind indices s f = with_given indices s f

-- ---- the whole text

-- the index of a loop
abbrev pub index_of : Form → List Target
index_of (form.Repeat r) = r.variable ∷ []
index_of f = []

-- the indices of loops
abbrev pub indices_of : List Placed → List Target
indices_of [] = []
indices_of (p ∷ ps) = index_of p.statement.form ++ indices_of ps

-- whether a statement makes or recalls a frame
abbrev pub is_frame : Form → Bool
is_frame (form.Shift l os) = not (is_same_name slanted_name l)
is_frame (form.Rotation l axis n) = true
is_frame (form.Restore l) = true
is_frame f = false

-- the same of a statement in its expansion
abbrev pub is_frame_placed : Placed → Bool
is_frame_placed p = is_frame p.statement.form

-- whether all statements are sure, one behind the other
abbrev pub are_sure : Bool → List Target → Sure → List Placed → Bool
are_sure frames indices s [] = true
are_sure frames indices s (p ∷ ps) =
    is_sure frames s.given p.statement.form && are_sure frames indices (sure_behind indices s p.statement.form) ps

-- whether a text is read in one way and loses nothing
abbrev pub is_certain : List Placed → Bool
is_certain ps = are_sure (list_any is_frame_placed ps) (indices_of ps) nothing_sure ps
