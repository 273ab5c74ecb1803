-- What each statement of an expanded text is put as, behind those above it.
use Rattle.std.specs.Prelude.{ℕ, ℤ, pos, negsuc, codes, Bool, true, false, ◌&&◌, ◌||◌, not, nat_lt, nat_eq, if◌then◌else◌, List, [], ◌∷◌, ◌++◌, length, slice_get, map, Option, Some, None, is_some, Result, Ok, Err}
use Rattle.std.specs.List.{flat_map, list_all, list_any}
use Rattle.std.specs.Str.{bytes_eq}
use Rattle.vcm_num.specs.declared.number.Kind.{Kind}
use Rattle.vcm_num.specs.declared.number.Kind.TheVariants as kinds
use Rattle.vcm_num.specs.declared.axis.Axis.{Axis}
use Rattle.vcm_num.specs.declared.axis.Axis.TheVariants.{PlusX, MinusX, PlusY, MinusY, PlusZ, MinusZ}
use Rattle.vcm_num.specs.declared.limits.TheConstants.{MOST_NAMES, DEEPEST_BLOCKS}
use Rattle.vcm_spec.specs.declared.expression.BinaryOp.TheVariants.{Add, Sub, Compare}
use Rattle.vcm_spec.specs.declared.expression.Relation.TheVariants.{Equal, NotEqual, Greater}
use Rattle.vcm_spec.specs.declared.words.FrameAxis.{FrameAxis}
use Rattle.vcm_spec.specs.declared.words.FrameAxis.TheVariants as axes
use Rattle.vcm_spec.specs.declared.words.Quarters.{Quarters}
use Rattle.vcm_spec.specs.declared.words.Setting.{Setting}
use Rattle.vcm_spec.specs.declared.words.Setting.TheVariants as settings
use Rattle.vcm_spec.specs.declared.words.Source.{Source as Side}
use Rattle.vcm_spec.specs.declared.words.Source.TheVariants.{Nominal, Actual}
use Rattle.vcm_spec.specs.declared.words.FeatureWord.{FeatureWord}
use Rattle.vcm_spec.specs.Setup.{Variable, kinds_of}
use Rattle.vcm_items.specs.Names.{variable_of, is_named}
use Rattle.vcm_lines.specs.declared.fault.FaultCode.{FaultCode}
use Rattle.vcm_expr.specs.declared.expression.Term.TheVariants.{Number}
use Rattle.vcm_expr.specs.declared.typing.Want.{Want}
use Rattle.vcm_expr.specs.declared.typing.Want.TheVariants as wants
use Rattle.std.specs.Prelude.{drop}
use Rattle.std.specs.Ordering.{int_eq}
use Rattle.vcm_num.specs.declared.number.Literal.TheVariants.{Int}
use Rattle.vcm_expr.specs.declared.expression.Term.{Term}
use Rattle.vcm_expr.specs.Source.{Source, Plain, Pair, leaf_in}
use Rattle.vcm_macro.specs.declared.placed.Placed.{Placed}
use Rattle.vcm_events.specs.Events.{event_name, event_named}
use Rattle.vcm_forms.specs.declared.statement.Target.{Target}
use Rattle.vcm_forms.specs.declared.statement.Coordinates.{Coordinates}
use Rattle.vcm_forms.specs.declared.statement.Rounds.{Rounds}
use Rattle.vcm_forms.specs.declared.statement.Offset.{Offset}
use Rattle.vcm_forms.specs.declared.statement.Form.{Form}
use Rattle.vcm_forms.specs.declared.statement.Form.TheVariants as form
use Rattle.vcm_program.specs.Titles.{index_of, entered, with_name}
use Rattle.vcm_spec.specs.Program.{is_same_name}
use Rattle.vcm_remarks.specs.declared.remark.Cause.{Cause}
use Rattle.vcm_remarks.specs.declared.remark.Cause.TheVariants as causes
use Rattle.vcm_events.specs.declared.event.Event.{Event}
use Rattle.vcm_events.specs.declared.event.Event.TheVariants as events
use Rattle.vcm_templates.specs.declared.guarded.Guarded.{Guarded}
use Rattle.vcm_kept.specs.declared.text.Text.{Text}
use Rattle.vcm_kept.specs.declared.events.Around.{Around}
use Rattle.vcm_events.specs.declared.spots.Spot.{Spot}
use Rattle.vcm_events.specs.declared.spots.Spot.TheVariants as spots
use Rattle.vcm_events.specs.Spots.{spot_named, slanted_name}
use Rattle.vcm_templates.specs.declared.lengths.Kept.TheVariants as kept
use Rattle.vcm_kept.specs.declared.effects.Effects.{Effects}
use Rattle.vcm_kept.specs.Exactly.{want_of, exact_form, is_cut_placed}
use Rattle.vcm_kept.specs.Choices.{next_depth, inner_depth, chooses_known, chooses_nothing, choice_end, cases, defaults, adds_value, begins_case, case_ends, declares_choices}
use Rattle.vcm_kept.specs.Datums.{binds, unbinds, declares_bound_at, keeps_axes, recalls_axes, straightens, turns_axes, declares_axes, begins_origins, originates, shift_of, frame_asks, declares_datums}
use Rattle.vcm_kept.specs.Late.{Made, made_by, is_late, is_late_variable, late_frame, late_feature, late_variable}
use Rattle.vcm_kept.specs.Named.{drops_frames, drops_frame, drops_feature, remakes_feature, stores_frame, declares_stored, keeps_stored}
use Rattle.vcm_events.specs.Datums.{are_origins}
use Rattle.vcm_kept.specs.Effects.{no_effects, either_effects, effects_of, set_by, other_tip, lose_block}
use Rattle.vcm_remarks.specs.declared.remark.Remark.TheVariants.{NotReported, AnotherTip, NotInFile}
use Rattle.vcm_kept.specs.Places.{has_place, asks_place, motion_asks, length_asks, point_asks, approach_asks, asks_point, moves, homes, keeps, loses_track, reaches_target, steps_by, halt_asks, approaches, halts, slants, keeps_setting, declares_kept, declares_slanted}
use Rattle.vcm_kept.specs.declared.reached.OpenBlock.{OpenBlock}
use Rattle.vcm_templates.specs.declared.carried.Carried.{Carried}
use Rattle.vcm_templates.specs.declared.carried.Carried.TheVariants as carried
use Rattle.vcm_templates.specs.declared.carried.Item.TheVariants as items
use Rattle.vcm_templates.specs.declared.carried.TheConstants.{IMPLICIT, FEATURES_STEP, UNKNOWN_SENSOR}
use Rattle.vcm_templates.specs.Carried.{carried_target, carried_name, first_carried, last_carried, known_first, carried_term, item_term, item_name}
use Rattle.vcm_templates.specs.Expressions.{number, truth, both, is_current, are_current, knows_frame, in_frame, has_form, is_found}
use Rattle.vcm_events.specs.Joined.{pair, whole_of}
use Rattle.vcm_templates.specs.Templates.{stands, remarks, set, set_item, lose, know, raise, declare_item, untried, asks, asks_all, where_known, elsewhere, ends, goes, gone, untried_point, touched, lose_all, to_the_end, lose_frame, saves_frame, new_frame, frame_gone, asks_value, is_carried, declares_bound, sets_bound, sets_near}
use Rattle.vcm_templates.specs.declared.templates.TheConstants.{FAR}

-- ---- what stands above

-- what statements leave behind them in writing: the variables, frames and features that are declared, whether a MEAS is open, behind how many open blocks, and of which
-- feature, if that is sure, whether a GOTARG is open, the variables that are set, in order, and the blocks that are open, the innermost first
pub record Reached : Type 0 where
  pub variables : List Variable
  pub frames : List (List ℕ)
  pub features : List (List ℕ)
  pub within : Bool
  pub since : ℕ
  pub measuring : Option (List ℕ)
  pub aiming : Bool
  pub assigned : List ℕ
  pub blocks : List OpenBlock

-- nothing stands above
abbrev pub begun : Reached
begun = record { variables = []; frames = []; features = []; within = false; since = 0; measuring = None; aiming = false; assigned = []; blocks = [] }

-- the first of the variables of a text that carries how far its values may lie from the machine's: no text can write it
abbrev pub first_variables : Bool → List Variable
first_variables true = record { name = item_name items.Beside; kind = kinds.Bool; expansion = IMPLICIT } ∷ []
first_variables false = []

-- nothing stands above, in a text that carries it or not
abbrev pub begun_in : Bool → Reached
begun_in cut = record begun { variables = first_variables cut }

-- ---- variables

-- the variables with one more, if its name is new and there is room
abbrev pub with_variable : List Variable → ℕ → Kind → List ℕ → List Variable
with_variable vs e k name =
    if nat_lt (length vs) MOST_NAMES
    then (if list_any (is_named e name) vs then vs else vs ++ record { name = name; kind = k; expansion = e } ∷ [])
    else vs

-- the variables with those of a declaration
abbrev pub with_variables : List Variable → ℕ → Kind → List (List ℕ) → List Variable
with_variables vs e k [] = vs
with_variables vs e k (name ∷ names) = with_variables (with_variable vs e k name) e k names

-- what is carried of the variable at an index is declared with it, its bound too if that is: it has no value that is known
unfoldable pub declares_variable : ℕ → Bool → ℕ → List Guarded
declares_variable line bound i = declare_item line items.Known i ∷ set_item line items.Known i (Plain (number (pos 0))) ∷ declares_bound line bound i

-- a variable that is declared; where its name was there the program is refused
abbrev pub declares_one : ℕ → List Variable → ℕ → Kind → List ℕ → List Guarded
declares_one line vs e k name =
    if nat_lt (length vs) MOST_NAMES
    then (if list_any (is_named e name) vs then [] else declares_variable line (is_carried vs k) (length vs))
    else []

-- the variables of a declaration, one by one
abbrev pub declares_all : ℕ → List Variable → ℕ → Kind → List (List ℕ) → List Guarded
declares_all line vs e k [] = []
declares_all line vs e k (name ∷ names) = declares_one line vs e k name ++ declares_all line (with_variable vs e k name) e k names

-- the value of a variable at an index is known
abbrev pub know_variable : ℕ → ℕ → Guarded
know_variable line i = set_item line items.Known i (Plain (carried_term carried.Values))

-- the value of a variable at an index isn't known
abbrev pub lose_variable : ℕ → ℕ → Guarded
lose_variable line i = set_item line items.Known i (Plain (number (pos 0)))

-- an assignment to the variable of this kind at an index: where all variables of its value are known it has that value
unfoldable pub assigned_where : ℕ → ℕ → List Variable → Target → Kind → ℕ → Source → List Guarded
assigned_where line e vs t k i value =
    asks line (truth true) ∷ (asks_value line vs FAR value ++ where_known line ∷ (sets_bound line vs k i value ++ stands line e (form.Assignment t value)
    ∷ know_variable line i ∷ elsewhere line ∷ lose_variable line i ∷ ends line ∷ []))

-- an assignment to the variable at an index, of this kind, if there is one
abbrev pub assigned_to : ℕ → ℕ → List Variable → Target → Source → ℕ → Option Kind → List Guarded
assigned_to line e vs t value i None = []
assigned_to line e vs t value i (Some k) =
    if has_form vs (want_of k) value then assigned_where line e vs t k i value else lose_variable line i ∷ []

-- an assignment; a variable of no kind of the language has no value
abbrev pub assigned_by : ℕ → ℕ → List Variable → Target → Source → Option ℕ → List Guarded
assigned_by line e vs t value None = []
assigned_by line e vs t value (Some i) = assigned_to line e vs t value i (slice_get (kinds_of vs) i)

-- an assignment to a variable of the text
abbrev pub assigned : ℕ → ℕ → List Variable → Target → Source → List Guarded
assigned line e vs t value = assigned_by line e vs t value (variable_of vs t.expansion t.name)

-- ---- events

-- an output line isn't written
abbrev pub unreported : ℕ → Guarded
unreported line = remarks line 0 (form.Assignment (carried_target carried.Asked) (truth false)) NotReported

-- whether a number is 0; what is no number counts as that
abbrev pub is_nothing : Option Term → Bool
is_nothing (Some (Number (Int n))) = int_eq n (pos 0)
is_nothing t = true

-- something is lost, with the place of the probe
abbrev pub turns_machine : ℕ → Carried → Cause → Bool → List Guarded
turns_machine line c why true = lose line c why ∷ set line carried.Place (Plain (number (pos 0))) ∷ []
turns_machine line c why false = know line c ∷ []

-- something is lost, or known again
abbrev pub turns_state : ℕ → Carried → Cause → Bool → List Guarded
turns_state line c why true = lose line c why ∷ []
turns_state line c why false = know line c ∷ []

-- another sensor, or one that may be another: the probe stands elsewhere, and another tip is told where one was selected before, or it isn't known which;
-- the first selection of a run is none of another tip
unfoldable pub changes_sensor : ℕ → Source → List Guarded
changes_sensor line n =
    set line carried.Place (Plain (number (pos 0)))
    ∷ stands line 0 (form.Test (pair (Compare NotEqual) (carried_term carried.Sensor) (number (pos 0))))
    ∷ remarks line 0 (form.Assignment (carried_target carried.Place) (Plain (number (pos 0)))) AnotherTip
    ∷ ends line ∷ set line carried.Sensor n ∷ []

-- a sensor by its number, which is another one than that of before, as a test tells
unfoldable pub selects : ℕ → Source → Source → List Guarded
selects line test n = stands line 0 (form.Test test) ∷ (changes_sensor line n ++ ends line ∷ [])

-- a sensor that isn't known
abbrev pub unselected : ℕ → List Guarded
unselected line = changes_sensor line (Plain (number UNKNOWN_SENSOR))

-- whether a sensor is known by its number: that isn't 0, and the statement stands in no macro, where its words may be those of a parameter
abbrev pub is_selected : ℕ → Option Term → Bool
is_selected e n = nat_eq e 0 && not (is_nothing n)

-- the sensor of a number
abbrev pub selects_number : ℕ → Option Term → List Guarded
selects_number line None = []
selects_number line (Some n) = selects line (pair (Compare NotEqual) (carried_term carried.Sensor) n) (Plain n)

-- a sensor, in an expansion
abbrev pub selects_by : ℕ → ℕ → Option Term → List Guarded
selects_by line e n = if is_selected e n then selects_number line n else unselected line

-- a probe that the file of probes hasn't: it isn't known where the tip stands, nor which probe is on
unfoldable pub misses_probe : ℕ → List Guarded
misses_probe line =
    remarks line 0 (form.Assignment (carried_target carried.Place) (Plain (number (pos 0)))) NotInFile
    ∷ set line carried.Sensor (Plain (number UNKNOWN_SENSOR)) ∷ []

-- the probe of a file that has this number, or none of the file's: the pivot stays, so that a run that turns the head knows where the tip stands then; but it is
-- another place, of which no coordinates are carried
abbrev pub takes_probe : (steps : Bool) → ℕ → (missing : Bool) → Source → List Guarded
takes_probe steps line true n = misses_probe line
takes_probe steps line false n = loses_track steps line ++ set line carried.Sensor n ∷ []

-- how many points are wanted: a whole number that is known, else none, which no measurement has
unfoldable pub wants_points : ℕ → List Variable → Source → List Guarded
wants_points line vs value =
    set line carried.Single (Plain (number (pos 0)))
    ∷ (if has_form vs wants.Int value
    then asks line (truth true) ∷ (asks_all line vs value ++ where_known line ∷ set line carried.Wanted value ∷ elsewhere line
    ∷ set line carried.Wanted (Plain (number (pos 0))) ∷ ends line ∷ [])
    else set line carried.Wanted (Plain (number (pos 0))) ∷ [])

-- the frame that is the machine's, where no frame of the text has its name
abbrev pub machine_name : List ℕ
machine_name = codes "________________"

-- the current frame is the machine's
unfoldable pub recalls_machine : (machine datums : Bool) → ℕ → List Guarded
recalls_machine true datums line = stands line 0 (form.Restore machine_name) ∷ (new_frame line ++ straightens datums line)
recalls_machine false datums line = lose_frame line ∷ []

-- what polar places hang on: angles in decimal degrees, and the plane of X and Y
unfoldable pub polar_asks : Source
polar_asks = are_current (carried.Angle ∷ carried.Plane ∷ [])

-- one of these is lost, or known again, in a text that asks for it
abbrev pub turns_polar : Bool → ℕ → Carried → Bool → List Guarded
turns_polar true line c nothing = turns_state line c causes.Value nothing
turns_polar false line c nothing = []

-- one value more of a CASE, if it is one
abbrev pub adds_number : ℕ → ℕ → Option Term → List Guarded
adds_number line i None = []
adds_number line i (Some t) = adds_value line i t

-- the block of a CASE begins, in a text where one has several values
abbrev pub begins_block : Bool → ℕ → ℕ → List Guarded
begins_block true line i = begins_case line i
begins_block false line i = []

-- what an event does
abbrev pub happens : Text → Around → ℕ → ℕ → List Variable → Event → Source → List Guarded
happens text around line e vs events.Mode v = turns_machine line carried.Mode causes.Mode (is_nothing (leaf_in v))
happens text around line e vs events.Table v = turns_machine line carried.Table causes.Table (is_nothing (leaf_in v))
happens text around line e vs events.Scanning v = turns_state line carried.Scanning causes.Scanning (is_nothing (leaf_in v))
happens text around line e vs events.Unit v = turns_state line carried.Unit causes.Unit (is_nothing (leaf_in v))
happens text around line e vs events.OwnPoints v = turns_state line carried.OwnPoints causes.Mode (is_nothing (leaf_in v))
happens text around line e vs events.Approach v = turns_state line carried.Approach causes.Setting (is_nothing (leaf_in v))
happens text around line e vs events.Search v = turns_state line carried.Search causes.Setting (is_nothing (leaf_in v))
happens text around line e vs events.Retract v = turns_state line carried.Retract causes.Setting (is_nothing (leaf_in v))
happens text around line e vs events.Clearance v = turns_state line carried.Clearance causes.Setting (is_nothing (leaf_in v))
happens text around line e vs events.Compensation v = turns_state line carried.Compensation causes.Setting (is_nothing (leaf_in v))
happens text around line e vs events.Qualification v = turns_state line carried.Qualification causes.Setting (is_nothing (leaf_in v))
happens text around line e vs events.Target v = reaches_target text.spots text.steps around.measuring line
happens text around line e vs events.Place v = set line carried.Place (Plain (number (pos 0))) ∷ []
happens text around line e vs events.Untried v = untried line ∷ []
happens text around line e vs events.UntriedPoint v = untried_point line
happens text around line e vs events.Values v = raise line carried.Values (pos 1) ∷ []
happens text around line e vs events.Features v = raise line carried.Features FEATURES_STEP ∷ []
happens text around line e vs events.Frames v = drops_frames line
happens text around line e vs events.Frame v = lose_frame line ∷ []
happens text around line e vs events.Saving v = set line carried.Saving (Plain (number (pos 0))) ∷ []
happens text around line e vs events.Machine v = recalls_machine text.machine text.datums line
happens text around line e vs events.Points v = wants_points line vs v
happens text around line e vs events.Sensor v = selects_by line e (leaf_in v)
happens text around line e vs events.Probe v = takes_probe text.steps line (is_nothing (leaf_in v)) v
happens text around line e vs events.Angle v = turns_polar text.polar line carried.Angle (is_nothing (leaf_in v))
happens text around line e vs events.Plane v = turns_polar text.polar line carried.Plane (is_nothing (leaf_in v))
happens text around line e vs events.Polar v = stands line 0 (form.Test polar_asks) ∷ []
happens text around line e vs events.PolarMotion v = elsewhere line ∷ untried line ∷ ends line ∷ []
happens text around line e vs events.PolarPoint v = elsewhere line ∷ (untried_point line ++ ends line ∷ [])
happens text around line e vs events.Bind v = []
happens text around line e vs events.Origins v = begins_origins text.datums line
happens text around line e vs events.Origin v = []
happens text around line e vs events.DropFrame v = drops_frames line
happens text around line e vs events.DropFeature v = raise line carried.Features FEATURES_STEP ∷ []
happens text around line e vs events.StoreFrame v = set line carried.Saving (Plain (number (pos 0))) ∷ []
happens text around line e vs events.Width v = other_tip line
happens text around line e vs events.Remake v = raise line carried.Features FEATURES_STEP ∷ []
happens text around line e vs events.Depth v = []
happens text around line e vs events.Unreported v = unreported line ∷ []
happens text around line e vs events.CaseValue v = adds_number line around.depth (leaf_in v)
happens text around line e vs events.CaseBegins v = begins_block text.several line around.depth
happens text around line e vs events.Ends v = to_the_end line ∷ []
happens text around line e vs events.All v = lose_all line ++ untried line ∷ []

-- an assignment: an event, or one to a variable of the text
abbrev pub assigns_or : Text → Around → ℕ → ℕ → List Variable → Target → Source → Option Event → List Guarded
assigns_or text around line e vs t value None = assigned line e vs t value
assigns_or text around line e vs t value (Some event) = happens text around line e vs event value

-- ---- points

-- the feature's own nominal is known here at all
abbrev pub is_declared : ℕ → Source
is_declared i = pair (Compare NotEqual) (item_term items.Nominal i) (number (pos 0))

-- and in this frame
abbrev pub is_nominal : ℕ → Source
is_nominal i = Pair (Compare Equal) (Plain (item_term items.Nominal i)) in_frame

-- and so its actual value
abbrev pub is_measured : ℕ → Source
is_measured i = Pair (Compare Equal) (Plain (item_term items.Measured i)) in_frame

-- the point of a measurement of its own
unfoldable pub point : ℕ → ℕ → List ℕ → Coordinates → Option Axis → List Guarded
point line e l p d = stands line e (form.Measure l) ∷ stands line e (form.Touch p d) ∷ stands line e form.MeasureEnd ∷ []

-- and behind it
unfoldable pub point_goes : Bool → ℕ → ℕ → List ℕ → Coordinates → Option Axis → List Guarded
point_goes steps line e l p d =
    point line e l p d ++ set line carried.Touched (Plain (carried_term carried.Frame)) ∷ (loses_track steps line ++ touched line)

-- a point of a feature that is declared by this place and direction alone
unfoldable pub own_point : Bool → ℕ → ℕ → List ℕ → Coordinates → Axis → List Guarded
own_point steps line e l p d = stands line e (form.Feature l p d) ∷ point_goes steps line e l p (Some d)

-- what has to be known of the direction of a point: that of the feature in this frame, where none is written
unfoldable pub direction_asks : ℕ → Option Axis → Source
direction_asks i None = both point_asks (is_nominal i)
direction_asks i (Some d) = both point_asks (is_declared i)

-- a point of a feature that is declared
unfoldable pub touches_declared : Bool → ℕ → ℕ → List Variable → List ℕ → ℕ → Coordinates → Option Axis → List Guarded
touches_declared steps line e vs l i p d =
    asks_point line vs (direction_asks i d) p ++ point_goes steps line e l p d

-- a point of another feature stands for itself: it is declared by its own place and direction
unfoldable pub touches_itself : Bool → ℕ → ℕ → List Variable → List ℕ → Coordinates → Option Axis → List Guarded
touches_itself steps line e vs l p None = untried_point line
touches_itself steps line e vs l p (Some d) =
    asks_point line vs point_asks p ++ own_point steps line e l p d

-- a point of the feature that is measured, at its index if it is declared
abbrev pub touches_at : Bool → ℕ → ℕ → List Variable → List ℕ → Coordinates → Option Axis → Option ℕ → List Guarded
touches_at steps line e vs l p d None = touches_itself steps line e vs l p d
touches_at steps line e vs l p d (Some i) = touches_declared steps line e vs l i p d

-- PTMEAS
abbrev pub touches : Bool → ℕ → ℕ → List Variable → List (List ℕ) → Coordinates → Option Axis → Option (List ℕ) → List Guarded
touches steps line e vs fs p d None = untried_point line
touches steps line e vs fs p d (Some l) = if has_place vs p then touches_at steps line e vs l p d (index_of fs l) else untried_point line

-- MEAS: so far it has no points, and one is wanted
unfoldable pub measures : ℕ → List Guarded
measures line =
    set line carried.Points (Plain (number (pos 0))) ∷ set line carried.Wanted (Plain (number (pos 1))) ∷ set line carried.Single (Plain (number (pos 1))) ∷ []

-- whether a measurement is the one touch of a single point
unfoldable pub touched_once : Source
touched_once = both (pair (Compare Equal) (carried_term carried.Single) (number (pos 1))) (pair (Compare Equal) (carried_term carried.Points) (number (pos 1)))

-- and in the frame that is the current one still
abbrev pub touched_here : Source
touched_here = both touched_once (pair (Compare Equal) (carried_term carried.Touched) (carried_term carried.Frame))

-- the feature at an index was measured by a single point, in the frame that is the current one still, or it has no value that is known
unfoldable pub keeps_point : Bool → ℕ → Option ℕ → List Guarded
keeps_point datums line None = []
keeps_point datums line (Some i) =
    stands line 0 (form.Test touched_here)
    ∷ set_item line items.Measured i in_frame ∷ elsewhere line ∷ set_item line items.Measured i (Plain (number (pos 0))) ∷ ends line ∷ unbinds datums line i

-- the index of the feature that is measured, if it is declared
abbrev pub measured_index : List (List ℕ) → Option (List ℕ) → Option ℕ
measured_index fs None = None
measured_index fs (Some l) = index_of fs l

-- points that were asked for and don't stand there aren't tried
unfoldable pub counts_points : ℕ → Option (List ℕ) → List Guarded
counts_points line None = []
counts_points line (Some l) =
    stands line 0 (form.Test (pair (Compare NotEqual) (carried_term carried.Points) (carried_term carried.Wanted))) ∷ untried line ∷ ends line ∷ []

-- the way from the last point to a clearance surface isn't tried, where there is one
unfoldable pub leaves_points : ℕ → List Guarded
leaves_points line =
    stands line 0 (form.Test (pair (Compare NotEqual) (carried_term carried.Clearance) (carried_term carried.Epoch))) ∷ untried line ∷ ends line ∷ []

-- ENDMES
abbrev pub measured : Bool → ℕ → List (List ℕ) → Option (List ℕ) → List Guarded
measured datums line fs l =
    counts_points line l ++ (keeps_point datums line (measured_index fs l) ++ (leaves_points line
    ++ know line carried.Qualification ∷ set line carried.Wanted (Plain (number (pos 0))) ∷ []))

-- behind a FEAT its nominal is known in this frame, elsewhere it isn't
unfoldable pub nominal_where : ℕ → ℕ → List Guarded
nominal_where line i =
    set_item line items.Nominal i in_frame ∷ elsewhere line ∷ set_item line items.Nominal i (Plain (number (pos 0))) ∷ ends line ∷ []

-- the direction of an axis as whole numbers, in thousandths
abbrev pub direction_of : Axis → Coordinates
direction_of PlusX = record { x = whole_of (pos 1000); y = whole_of (pos 0); z = whole_of (pos 0) }
direction_of MinusX = record { x = whole_of (negsuc 999); y = whole_of (pos 0); z = whole_of (pos 0) }
direction_of PlusY = record { x = whole_of (pos 0); y = whole_of (pos 1000); z = whole_of (pos 0) }
direction_of MinusY = record { x = whole_of (pos 0); y = whole_of (negsuc 999); z = whole_of (pos 0) }
direction_of PlusZ = record { x = whole_of (pos 0); y = whole_of (pos 0); z = whole_of (pos 1000) }
direction_of MinusZ = record { x = whole_of (pos 0); y = whole_of (pos 0); z = whole_of (negsuc 999) }

-- the direction of the feature at an index is carried
abbrev pub sets_direction : ℕ → ℕ → Coordinates → List Guarded
sets_direction line i d = set_item line items.AlongX i d.x ∷ set_item line items.AlongY i d.y ∷ set_item line items.AlongZ i d.z ∷ []

-- it is where points are approached along it
abbrev pub keeps_direction : Bool → ℕ → ℕ → Axis → List Guarded
keeps_direction true line i d = sets_direction line i (direction_of d)
keeps_direction false line i d = []

-- FEAT of a point along an axis, at its index
unfoldable pub features_at : Bool → ℕ → ℕ → List Variable → List ℕ → Coordinates → Axis → ℕ → List Guarded
features_at pointed line e vs l p d i =
    asks line length_asks ∷ (asks_place line vs p ++ where_known line ∷ stands line e (form.Feature l p d) ∷ (keeps_direction pointed line i d ++ nominal_where line i))

-- what is carried of a direction is declared, where points are approached along it
abbrev pub declares_direction : Bool → ℕ → ℕ → List Guarded
declares_direction true line i = declare_item line items.AlongX i ∷ declare_item line items.AlongY i ∷ declare_item line items.AlongZ i ∷ []
declares_direction false line i = []

-- what is carried of a feature is declared with it
abbrev pub declares_feature : (pointed datums : Bool) → ℕ → ℕ → Option ℕ → List Guarded
declares_feature pointed datums line i None =
    declare_item line items.Measured i ∷ declare_item line items.Nominal i ∷ (declares_direction pointed line i ++ declares_bound_at datums line i)
declares_feature pointed datums line i (Some j) = []

-- a feature that isn't known by its FEAT, nor is its value
abbrev pub feature_gone : ℕ → Option ℕ → List Guarded
feature_gone line None = []
feature_gone line (Some i) = set_item line items.Nominal i (Plain (number (pos 0))) ∷ set_item line items.Measured i (Plain (number (pos 0))) ∷ []

-- a feature with room in the table; without room its FEAT is refused
abbrev pub features_in : (pointed datums : Bool) → ℕ → ℕ → List Variable → List (List ℕ) → List ℕ → Coordinates → Axis → Result ℕ FaultCode → List Guarded
features_in pointed datums line e vs fs l p d (Ok i) = declares_feature pointed datums line i (index_of fs l) ++ features_at pointed line e vs l p d i
features_in pointed datums line e vs fs l p d (Err c) = stands line e (form.Feature l p d) ∷ []

-- FEAT
abbrev pub features : (pointed datums : Bool) → ℕ → ℕ → List Variable → List (List ℕ) → List ℕ → Coordinates → Axis → List Guarded
features pointed datums line e vs fs l p d =
    if has_place vs p then features_in pointed datums line e vs fs l p d (entered fs l) else feature_gone line (index_of fs l)

-- names with one more, if there is room
abbrev pub with_known : List (List ℕ) → List ℕ → List (List ℕ)
with_known names l = if is_found (entered names l) then with_name names l else names

-- ---- settings, frames

-- the variable of a setting
abbrev pub carried_setting : Setting → Carried
carried_setting settings.Approach = carried.Approach
carried_setting settings.Search = carried.Search
carried_setting settings.Retract = carried.Retract
carried_setting settings.Depth = carried.Search

-- behind a setting it is known, elsewhere it isn't
unfoldable pub setting_where : ℕ → Carried → List Guarded
setting_where line c = know line c ∷ elsewhere line ∷ lose line c causes.Setting ∷ ends line ∷ []

-- SNSET
abbrev pub configures : Bool → ℕ → ℕ → List Variable → Setting → Source → List Guarded
configures slanted line e vs which value =
    if has_form vs wants.Length value
    then asks line (are_current (carried.Unit ∷ []))
    ∷ (asks_all line vs value ++ where_known line ∷ stands line e (form.Configure which value) ∷ (keeps_setting slanted line which value ++ setting_where line (carried_setting which)))
    else lose line (carried_setting which) causes.Setting ∷ []

-- what is carried of a frame is declared with it
abbrev pub declares_frame : Text → ℕ → ℕ → Option ℕ → List Guarded
declares_frame text line i None = declare_item line items.Saved i ∷ (declares_stored text.saving line i ++ declares_axes text.datums line i)
declares_frame text line i (Some j) = []

-- behind a frame that is made it is a new one, elsewhere it isn't known
unfoldable pub made_where : Text → ℕ → ℕ → List Guarded
made_where text line i =
    saves_frame line i ++ (keeps_stored text.saving line i ++ (keeps_axes text.datums line i ++ elsewhere line ∷ (frame_gone line (Some i) ++ ends line ∷ [])))

-- what was found, if it was
abbrev pub found_in : Result ℕ FaultCode → Option ℕ
found_in (Ok i) = Some i
found_in (Err c) = None

-- whether a shift has a form
abbrev pub has_shift : List Variable → Offset → Bool
has_shift vs o = has_form vs wants.Length o.length

-- whether the shifts of TRANS have forms; a shift along no axis has none
abbrev pub has_shifts : List Variable → List Offset → Bool
has_shifts vs [] = false
has_shifts vs (o ∷ os) = list_all (has_shift vs) (o ∷ os)

-- what has to be known of the variables of a shift
abbrev pub asks_shifts : ℕ → List Variable → Offset → List Guarded
asks_shifts line vs o = asks_all line vs o.length

-- TRANS at the index of its frame; without room in the table it is refused
abbrev pub shifts_at : Text → ℕ → ℕ → List Variable → List ℕ → List Offset → Option ℕ → Option ℕ → List Guarded
shifts_at text line e vs l os was None = stands line e (form.Shift l os) ∷ []
shifts_at text line e vs l os was (Some i) =
    declares_frame text line i was ++ asks line length_asks
    ∷ (flat_map (asks_shifts line vs) os ++ where_known line ∷ stands line e (form.Shift l os) ∷ made_where text line i)

-- TRANS whose shifts have forms
abbrev pub shifts_in : Text → ℕ → ℕ → List Variable → List (List ℕ) → List ℕ → List Offset → List Guarded
shifts_in text line e vs ds l os = shifts_at text line e vs l os (index_of ds l) (found_in (entered ds l))

-- TRANS
abbrev pub shifts : Text → ℕ → ℕ → List Variable → List (List ℕ) → List ℕ → List Offset → List Guarded
shifts text line e vs ds l os = if has_shifts vs os then shifts_in text line e vs ds l os else frame_gone line (index_of ds l)

-- a frame by its origins at its index; without room in the table it is refused
abbrev pub origins_at : Text → ℕ → ℕ → List ℕ → List Offset → Option ℕ → Option ℕ → List Guarded
origins_at text line e l os was None = stands line e (form.Shift l (map shift_of os)) ∷ []
origins_at text line e l os was (Some i) =
    declares_frame text line i was ++ asks line frame_asks ∷ where_known line ∷ stands line e (form.Shift l (map shift_of os)) ∷ made_where text line i

-- a frame by its origins
abbrev pub origins_in : Text → ℕ → ℕ → List (List ℕ) → List ℕ → List Offset → List Guarded
origins_in text line e ds l os = origins_at text line e l os (index_of ds l) (found_in (entered ds l))

-- what has to be known for a turn: also that angles are in decimal degrees, in a text that may have others
abbrev pub turn_asks : Bool → Source
turn_asks true = both length_asks (is_current carried.Angle)
turn_asks false = length_asks

-- ROTATE at the index of its frame; without room in the table it is refused
abbrev pub turns_at : Text → ℕ → ℕ → List ℕ → FrameAxis → Quarters → Option ℕ → Option ℕ → List Guarded
turns_at text line e l axis n was None = stands line e (form.Rotation l axis n) ∷ []
turns_at text line e l axis n was (Some i) =
    declares_frame text line i was ++ asks line (turn_asks text.polar) ∷ where_known line ∷ stands line e (form.Rotation l axis n)
    ∷ (turns_axes text.datums line ++ made_where text line i)

-- ROTATE
abbrev pub turns_in : Text → ℕ → ℕ → List (List ℕ) → List ℕ → FrameAxis → Quarters → List Guarded
turns_in text line e ds l axis n = turns_at text line e l axis n (index_of ds l) (found_in (entered ds l))

-- behind a frame that is recalled it is the current one, elsewhere this isn't known
unfoldable pub recalled_where : Bool → ℕ → ℕ → List Guarded
recalled_where datums line i =
    set line carried.Frame (Plain (item_term items.Saved i)) ∷ (recalls_axes datums line i ++ elsewhere line ∷ lose_frame line ∷ ends line ∷ [])

-- RECALL of the frame at an index, where it is known
abbrev pub recalls_at : Bool → ℕ → ℕ → List ℕ → Option ℕ → List Guarded
recalls_at datums line e l None = lose_frame line ∷ []
recalls_at datums line e l (Some i) =
    stands line 0 (form.Test (pair (Compare Greater) (item_term items.Saved i) (carried_term carried.Floor)))
    ∷ stands line e (form.Restore l) ∷ recalled_where datums line i

-- ---- values of features

-- the frame in which a feature's value is known is the current one
abbrev pub is_here : Side → ℕ → Source
is_here Nominal i = is_nominal i
is_here Actual i = is_measured i

-- OBTAIN for the REAL at an index, of the feature at an index: what a feature says may lie as far from the machine's as a length may
unfoldable pub obtains_here : ℕ → ℕ → List Variable → Target → Side → List ℕ → FeatureWord → ℕ → ℕ → List Guarded
obtains_here line e vs t side l word i j =
    asks line (both (is_here side j) length_asks) ∷ where_known line ∷ stands line e (form.Query t side l word)
    ∷ (sets_near line vs kinds.Real i ++ know_variable line i ∷ elsewhere line ∷ lose_variable line i ∷ ends line ∷ [])

-- OBTAIN for the variable at an index, of this kind, of the feature at an index
abbrev pub obtains_at : ℕ → ℕ → List Variable → Target → Side → List ℕ → FeatureWord → ℕ → Option Kind → Option ℕ → List Guarded
obtains_at line e vs t side l word i (Some kinds.Real) (Some j) = obtains_here line e vs t side l word i j
obtains_at line e vs t side l word i (Some k) j = lose_variable line i ∷ []
obtains_at line e vs t side l word i None j = []

-- OBTAIN for the variable at an index, if there is one
abbrev pub obtains_by : ℕ → ℕ → List Variable → List (List ℕ) → Target → Side → List ℕ → FeatureWord → Option ℕ → List Guarded
obtains_by line e vs fs t side l word None = []
obtains_by line e vs fs t side l word (Some i) = obtains_at line e vs t side l word i (slice_get (kinds_of vs) i) (index_of fs l)

-- OBTAIN, or a statement about a datum, or what happens to a feature or a frame by its name
abbrev pub queries : Bool → ℕ → ℕ → List Variable → (fs ds : List (List ℕ)) → Target → Side → List ℕ → FeatureWord → Option Event → List Guarded
queries datums line e vs fs ds t side l word (Some events.Bind) = binds line (index_of fs l)
queries datums line e vs fs ds t side l word (Some events.Origin) = originates line e l word (index_of fs l)
queries datums line e vs fs ds t side l word (Some events.DropFeature) = drops_feature datums line (index_of fs l)
queries datums line e vs fs ds t side l word (Some events.Remake) = remakes_feature datums line (index_of fs l)
queries datums line e vs fs ds t side l word (Some events.DropFrame) = drops_frame line (index_of ds l)
queries datums line e vs fs ds t side l word (Some events.StoreFrame) = stores_frame line (index_of ds l)
queries datums line e vs fs ds t side l word event = obtains_by line e vs fs t side l word (variable_of vs t.expansion t.name)

-- OUTPUT of the feature at an index, where its value is known
abbrev pub reports_at : ℕ → ℕ → Side → List ℕ → Option ℕ → List Guarded
reports_at line e side l None = []
reports_at line e side l (Some i) =
    asks line (both knows_frame (is_here side i)) ∷ where_known line ∷ stands line e (form.Report side l) ∷ elsewhere line ∷ unreported line ∷ ends line ∷ []

-- ---- blocks

-- a block that a line opens: that of a choice, or the body of a loop whose variable stands at an index; behind so many variables that were set
abbrev pub block : ℕ → Option ℕ → ℕ → List ℕ → OpenBlock
block line index depth assigned = record { line = line; index = index; depth = depth; since = length assigned; effects = no_effects }

-- one more block is open; deeper ones are refused
abbrev pub opened : OpenBlock → List OpenBlock → List OpenBlock
opened o os = if nat_lt (length os) DEEPEST_BLOCKS then o ∷ os else os

-- the innermost block that is open, if one is
abbrev pub first_block : List OpenBlock → Option OpenBlock
first_block [] = None
first_block (o ∷ os) = Some o

-- what the statements of a block may do
abbrev pub effects_in : Option OpenBlock → Effects
effects_in None = no_effects
effects_in (Some b) = b.effects

-- the variables that they set, of all that were set
abbrev pub set_in : Option OpenBlock → List ℕ → List ℕ
set_in None assigned = []
set_in (Some b) assigned = drop b.since assigned

-- what may be done in the innermost block
abbrev pub with_effects : Effects → List OpenBlock → List OpenBlock
with_effects e [] = []
with_effects e (o ∷ os) = record o { effects = either_effects o.effects e } ∷ os

-- the blocks that are open behind the innermost one: what may be done in that may be done in the one around it
abbrev pub closed : List OpenBlock → List OpenBlock
closed [] = []
closed (o ∷ os) = with_effects o.effects os

-- the line that opened a block, or else this one
abbrev pub line_of : ℕ → Option OpenBlock → ℕ
line_of line None = line
line_of line (Some b) = b.line

-- the end of blocks that hang on something that may not be known: elsewhere it isn't known what they did, told at the line that opens them
unfoldable pub closes : ℕ → Effects → List ℕ → List Guarded
closes line e is = elsewhere line ∷ (lose_block line e is ++ ends line ∷ [])

-- a choice by something that isn't known
unfoldable pub unknown_asks : ℕ → List Guarded
unknown_asks line = asks line (truth false) ∷ where_known line ∷ []

-- IF
abbrev pub tests : ℕ → ℕ → List Variable → Source → List Guarded
tests line e vs c =
    if has_form vs wants.Bool c
    then asks line (truth true) ∷ (asks_all line vs c ++ where_known line ∷ stands line e (form.Test c) ∷ [])
    else unknown_asks line ++ stands line e (form.Test (truth false)) ∷ []

-- SELECT
abbrev pub chooses : Bool → ℕ → ℕ → ℕ → List Variable → Source → List Guarded
chooses several line e i vs c =
    if has_form vs wants.Int c
    then asks line (truth true) ∷ (asks_all line vs c ++ where_known line ∷ chooses_known several line e i c)
    else unknown_asks line ++ chooses_nothing several line e ∷ []

-- an increment that has a form, or is left out
abbrev pub has_increment : List Variable → Option Source → Bool
has_increment vs None = true
has_increment vs (Some c) = has_form vs wants.Int c

-- what has to be known of an increment
abbrev pub asks_increment : ℕ → List Variable → Option Source → List Guarded
asks_increment line vs None = []
asks_increment line vs (Some c) = asks_all line vs c

-- the index of a loop, if it is a variable of whole numbers
abbrev pub loop_index : Option ℕ → Option Kind → Option ℕ
loop_index (Some i) (Some kinds.Int) = Some i
loop_index i k = None

-- the kind of the variable at an index, if there is one
abbrev pub kind_at : List Variable → Option ℕ → Option Kind
kind_at vs None = None
kind_at vs (Some i) = slice_get (kinds_of vs) i

-- the index of a loop that has a form
abbrev pub loops_by : List Variable → Rounds → Option ℕ
loops_by vs r =
    if has_form vs wants.Int r.initial && (has_form vs wants.Int r.limit && has_increment vs r.increment)
    then loop_index (variable_of vs r.variable.expansion r.variable.name) (kind_at vs (variable_of vs r.variable.expansion r.variable.name))
    else None

-- what has to be known of rounds
unfoldable pub asks_rounds : ℕ → List Variable → Rounds → List Guarded
asks_rounds line vs r = asks line (truth true) ∷ (asks_all line vs r.initial ++ (asks_all line vs r.limit ++ asks_increment line vs r.increment))

-- DO, by the index of its variable if it has a form
abbrev pub repeats : ℕ → ℕ → List Variable → Rounds → Option ℕ → List Guarded
repeats line e vs r (Some i) =
    asks_rounds line vs r ++ where_known line ∷ stands line e (form.Repeat r) ∷ know_variable line i ∷ []
repeats line e vs r None = unknown_asks line ++ stands line e (form.Test (truth false)) ∷ []

-- the end of a loop whose variable stands at an index, or of a choice that it is put as: behind a loop its index has another value on some machines
abbrev pub loop_ends : ℕ → ℕ → Option ℕ → List Guarded
loop_ends line e (Some i) = stands line e form.RepeatEnd ∷ lose_variable line i ∷ []
loop_ends line e None = stands line e form.TestEnd ∷ []

-- ENDDO, by the block that is open
abbrev pub repeats_end : ℕ → ℕ → Option OpenBlock → List ℕ → List Guarded
repeats_end line e (Some b) assigned = loop_ends line e b.index ++ closes b.line b.effects (drop b.since assigned)
repeats_end line e None assigned = stands line e form.RepeatEnd ∷ []

-- ENDIF and ENDSEL, by the block that is open
abbrev pub chooses_end : ℕ → ℕ → Form → Option OpenBlock → List ℕ → List Guarded
chooses_end line e f b assigned = stands line e f ∷ closes (line_of line b) (effects_in b) (set_in b assigned)

-- ENDFIL, behind the label that leads here
abbrev pub ending : Bool → ℕ → ℕ → List Guarded
ending true line e = stands line IMPLICIT (form.Mark (codes "END")) ∷ stands line e form.Ending ∷ []
ending false line e = stands line e form.Ending ∷ []

-- ---- each statement

-- a place that is none to go to at once: it is kept, or a step
abbrev pub spots_by : (aiming measuring : Bool) → ℕ → List Variable → Coordinates → Spot → List Guarded
spots_by aiming measuring line vs p spots.Home = keeps line vs kept.Home p ++ lose line carried.Home causes.Value ∷ []
spots_by aiming measuring line vs p spots.Target = keeps line vs kept.Target p
spots_by aiming measuring line vs p spots.Step = steps_by aiming measuring line vs Add p
spots_by aiming measuring line vs p spots.Back = steps_by aiming measuring line vs Sub p

-- whether a GOTARG may be open: in writing, or by a jump
abbrev pub is_aimed : Text → Reached → Bool
is_aimed text r = r.aiming || (text.jumps && text.spots)

-- FEAT, or such a place
abbrev pub features_or : Text → Reached → ℕ → ℕ → List ℕ → Coordinates → Axis → Option Spot → List Guarded
features_or text r line e l p d None = features text.pointed text.datums line e r.variables r.features l p d
features_or text r line e l p d (Some s) = spots_by (is_aimed text r) r.within line r.variables p s

-- the direction of the feature at an index, as it is carried
abbrev pub direction_in : ℕ → Coordinates
direction_in i = record { x = Plain (item_term items.AlongX i); y = Plain (item_term items.AlongY i); z = Plain (item_term items.AlongZ i) }

-- a point that is approached and left along the direction of the feature that is measured, where that is declared in this frame
abbrev pub approaches_feature : Bool → ℕ → List Variable → Coordinates → Option ℕ → List Guarded
approaches_feature steps line vs p None = untried_point line
approaches_feature steps line vs p (Some i) = approaches steps line vs (both approach_asks (is_nominal i)) p (direction_in i)

-- a point that is approached alone, along this direction, or along that of the feature that is measured where none is written
abbrev pub halts_along : Bool → ℕ → List Variable → Coordinates → Option Axis → Option ℕ → List Guarded
halts_along steps line vs p (Some d) i = halts steps line vs halt_asks p (direction_of d)
halts_along steps line vs p None None = untried_point line
halts_along steps line vs p None (Some i) = halts steps line vs (both halt_asks (is_nominal i)) p (direction_in i)

-- a point where the way back is known; elsewhere it is approached alone
unfoldable pub touches_where : Bool → ℕ → ℕ → List Variable → List (List ℕ) → Coordinates → Option Axis → List ℕ → List Guarded
touches_where steps line e vs fs p d l =
    stands line 0 (form.Test (is_current carried.Retract))
    ∷ (touches steps line e vs fs p d (Some l) ++ elsewhere line ∷ (halts_along steps line vs p d (index_of fs l) ++ ends line ∷ []))

-- PTMEAS, in a text where the way back of a point may not be known, or always is where the rest is
abbrev pub touches_or : (halting steps : Bool) → ℕ → ℕ → List Variable → List (List ℕ) → Coordinates → Option Axis → Option (List ℕ) → List Guarded
touches_or true steps line e vs fs p d (Some l) = touches_where steps line e vs fs p d l
touches_or halting steps line e vs fs p d l = touches steps line e vs fs p d l

-- a slanted point, or one along the direction of its feature, which is said by its three coordinates alone
abbrev pub slants_or : Text → ℕ → List Variable → Option ℕ → List Offset → List Guarded
slants_or text line vs i (x ∷ y ∷ z ∷ []) =
    approaches_feature text.steps line vs (record { x = x.length; y = y.length; z = z.length }) i
slants_or text line vs i os = slants text.slants text.steps line vs os

-- TRANS, or a frame by its origins
abbrev pub frames_by : Text → ℕ → ℕ → List Variable → List (List ℕ) → List ℕ → List Offset → Bool → List Guarded
frames_by text line e vs ds l os true = origins_in text line e ds l os
frames_by text line e vs ds l os false = shifts text line e vs ds l os

-- a frame, or a point that is approached and left
abbrev pub shifts_or : Text → Reached → ℕ → ℕ → List ℕ → List Offset → Bool → List Guarded
shifts_or text r line e l os true = slants_or text line r.variables (measured_index r.features r.measuring) os
shifts_or text r line e l os false = frames_by text line e r.variables r.frames l os (are_origins os)

-- where a statement stands
abbrev pub around : Reached → Around
around r = record { measuring = r.within; depth = inner_depth r.blocks }

-- what a statement is put as
abbrev pub guards : Text → Reached → ℕ → ℕ → Form → List Guarded
guards text r line e (form.Declaration k names) = declares_all line r.variables e k names ++ stands line e (form.Declaration k names) ∷ []
guards text r line e (form.Assignment t value) = assigns_or text (around r) line e r.variables t value (event_named t.name)
guards text r line e (form.Move p) = moves text.steps line e r.variables (is_aimed text r) r.within p
guards text r line e form.Home = homes text.from text.steps (is_aimed text r) r.within line e
guards text r line e (form.Test c) = tests line e r.variables c
guards text r line e form.TestEnd = chooses_end line e form.TestEnd (first_block r.blocks) r.assigned
guards text r line e (form.Repeat rounds) = repeats line e r.variables rounds (loops_by r.variables rounds)
guards text r line e form.RepeatEnd = repeats_end line e (first_block r.blocks) r.assigned
guards text r line e (form.Choose c) = chooses text.several line e (next_depth r.blocks) r.variables c
guards text r line e form.ChooseEnd = chooses_end line e (choice_end text.several) (first_block r.blocks) r.assigned
guards text r line e (form.Feature l p d) = features_or text r line e l p d (spot_named l)
guards text r line e (form.Measure l) = measures line
guards text r line e (form.Touch p d) = touches_or text.halts text.steps line e r.variables r.features p d r.measuring
guards text r line e form.MeasureEnd = measured text.datums line r.features r.measuring
guards text r line e (form.Configure which value) = configures text.slants line e r.variables which value
guards text r line e (form.Shift l os) = shifts_or text r line e l os (is_same_name slanted_name l)
guards text r line e (form.Rotation l axis n) = turns_in text line e r.frames l axis n
guards text r line e (form.Restore l) = recalls_at text.datums line e l (index_of r.frames l)
guards text r line e (form.Query t side l word) = queries text.datums line e r.variables r.features r.frames t side l word (event_named t.name)
guards text r line e (form.Report side l) = reports_at line e side l (index_of r.features l)
guards text r line e (form.Case n) = cases text.several line e (inner_depth r.blocks) n
guards text r line e form.Default = defaults text.several line e (inner_depth r.blocks)
guards text r line e form.CaseEnd = case_ends text.several line e
guards text r line e form.Ending = ending text.jumps line e
guards text r line e f = stands line e f ∷ []

-- what stands above behind a place that is none to go to at once
abbrev pub reaches_spot : Reached → Spot → Reached
reaches_spot r spots.Target = record r { aiming = true }
reaches_spot r s = r

-- and behind a FEAT, or such a place
abbrev pub reaches_feature : Reached → List ℕ → Coordinates → Option Spot → Reached
reaches_feature r l p None = if has_place r.variables p then record r { features = with_known r.features l } else r
reaches_feature r l p (Some s) = reaches_spot r s

-- whether a frame is made by these shifts
abbrev pub makes_frame : List Variable → List Offset → Bool
makes_frame vs os = are_origins os || has_shifts vs os

-- and behind a TRANS, or a slanted point
abbrev pub reaches_shift : Reached → List ℕ → List Offset → Bool → Reached
reaches_shift r l os true = r
reaches_shift r l os false = if makes_frame r.variables os then record r { frames = with_known r.frames l } else r

-- a measurement begins here
abbrev pub measuring_from : Reached → List ℕ → Reached
measuring_from r l = record r { within = true; since = length r.blocks; measuring = Some l }

-- it isn't sure any more which feature is measured, if one is
abbrev pub doubted : Reached → Reached
doubted r = record r { measuring = None }

-- the same behind another branch, or the end, of a block in which the measurement begins
abbrev pub branched : Reached → Reached
branched r = if nat_lt r.since (length r.blocks) then r else doubted r

-- a block ends
abbrev pub left : Reached → Reached
left r = record (branched r) { blocks = closed r.blocks }

-- what stands above behind a statement, beside what it may do
abbrev pub reaches_form : Reached → ℕ → ℕ → Form → Reached
reaches_form r line e (form.Declaration k names) = record r { variables = with_variables r.variables e k names }
reaches_form r line e (form.Test c) = record r { blocks = opened (block line None (next_depth r.blocks) r.assigned) r.blocks }
reaches_form r line e (form.Choose c) = record r { blocks = opened (block line None (next_depth r.blocks) r.assigned) r.blocks }
reaches_form r line e (form.Repeat rounds) = record r { blocks = opened (block line (loops_by r.variables rounds) (next_depth r.blocks) r.assigned) r.blocks }
reaches_form r line e form.TestEnd = left r
reaches_form r line e form.ChooseEnd = left r
reaches_form r line e form.RepeatEnd = left r
reaches_form r line e form.Otherwise = branched r
reaches_form r line e (form.Case n) = branched r
reaches_form r line e form.CaseEnd = branched r
reaches_form r line e form.Default = branched r
reaches_form r line e (form.Mark name) = doubted r
reaches_form r line e (form.Assignment t value) = if bytes_eq t.name (event_name events.Target) then record r { aiming = false } else r
reaches_form r line e (form.Feature l p d) = reaches_feature r l p (spot_named l)
reaches_form r line e (form.Measure l) = measuring_from r l
reaches_form r line e form.MeasureEnd = record r { within = false; measuring = None }
reaches_form r line e (form.Shift l os) = reaches_shift r l os (is_same_name slanted_name l)
reaches_form r line e (form.Rotation l axis n) = record r { frames = with_known r.frames l }
reaches_form r line e f = r

-- what a statement may do, and the variable that it sets, are noted
abbrev pub noted : Reached → Effects → List ℕ → Reached
noted r e is = record r { blocks = with_effects e r.blocks; assigned = r.assigned ++ is }

-- what stands above behind a statement
abbrev pub reaches : Reached → ℕ → ℕ → Form → Reached
reaches r line e f = noted (reaches_form r line e f) (effects_of f) (set_by r.variables f)

-- ---- what is made below in writing

-- a shift that makes no frame, of one that is made below alone
abbrev pub late_shift : Made → Reached → ℕ → List ℕ → List Offset → List Guarded
late_shift made r line l os =
    late_frame line (not (is_same_name slanted_name l) && (not (makes_frame r.variables os) && is_late r.frames made.frames l))

-- a FEAT without a place, of a feature that is declared below alone
abbrev pub late_place : Made → Reached → ℕ → List ℕ → Coordinates → Option Spot → List Guarded
late_place made r line l p None = late_feature line (not (has_place r.variables p) && is_late r.features made.features l)
late_place made r line l p (Some s) = []

-- a point of a feature that is declared below alone: it is declared by its own place here
abbrev pub late_touch : Made → Reached → ℕ → Option (List ℕ) → List Guarded
late_touch made r line None = []
late_touch made r line (Some l) = late_feature line (is_late r.features made.features l)

-- the end of a measurement of such a feature, or of one that isn't sure
abbrev pub late_end : Made → Reached → ℕ → Option (List ℕ) → List Guarded
late_end made r line None = late_feature line true
late_end made r line (Some l) = late_feature line (is_late r.features made.features l)

-- a value for a variable that is declared below alone
abbrev pub late_value : Made → Reached → ℕ → Target → Option Event → List Guarded
late_value made r line t None = late_variable line (is_late_variable r.variables made.variables t)
late_value made r line t (Some e) = []

-- output of a feature that is declared below alone
abbrev pub late_report : ℕ → Bool → List Guarded
late_report line true = unreported line ∷ []
late_report line false = []

-- what isn't known any more before a statement that is about something that is made below alone
abbrev pub lates : Made → Reached → ℕ → Form → List Guarded
lates made r line (form.Shift l os) = late_shift made r line l os
lates made r line (form.Feature l p d) = late_place made r line l p (spot_named l)
lates made r line (form.Touch p d) = late_touch made r line r.measuring
lates made r line form.MeasureEnd = late_end made r line r.measuring
lates made r line (form.Assignment t value) = late_value made r line t (event_named t.name)
lates made r line (form.Query t side l word) = late_value made r line t (event_named t.name)
lates made r line (form.Report side l) = late_report line (is_late r.features made.features l)
lates made r line f = []

-- one statement, with that before it
abbrev pub guards_late : Text → Made → Reached → ℕ → ℕ → Form → List Guarded
guards_late text made r line e f = lates made r line f ++ guards text r line e f

-- what statements are put as, one behind the other
abbrev pub guards_from : Text → Made → Reached → List Placed → List Guarded
guards_from text made r [] = []
guards_from text made r (p ∷ ps) =
    guards_late text made r p.statement.line p.expansion (exact_form r.variables p.statement.form)
    ++ guards_from text made (reaches r p.statement.line p.expansion (exact_form r.variables p.statement.form)) ps

-- ---- the whole text

-- whether a statement is a jump label, or a jump: to one, or to one that stands nowhere
abbrev pub is_jump : Form → Bool
is_jump (form.Mark name) = true
is_jump (form.Leap name) = true
is_jump (form.Assignment t value) = bytes_eq t.name (event_name events.Ends)
is_jump f = false

-- whether a statement names the frame that is kept for the machine's
abbrev pub names_machine : Form → Bool
names_machine (form.Shift l os) = is_same_name machine_name l
names_machine (form.Rotation l axis n) = is_same_name machine_name l
names_machine f = false

-- the same of a statement in its expansion
abbrev pub is_jump_placed : Placed → Bool
is_jump_placed p = is_jump p.statement.form

-- and so of the frame that is kept for the machine's
abbrev pub names_machine_placed : Placed → Bool
names_machine_placed p = names_machine p.statement.form

-- the place that a statement is, if it is none to go to at once
abbrev pub spot_in : Form → Option Spot
spot_in (form.Feature l p d) = spot_named l
spot_in f = None

-- whether a statement is a place that is kept, or a step
abbrev pub is_spotted : Placed → Bool
is_spotted p = is_some (spot_in p.statement.form)

-- whether it is a FROM
abbrev pub is_start : Option Spot → Bool
is_start (Some spots.Home) = true
is_start s = false

abbrev pub is_from : Placed → Bool
is_from p = is_start (spot_in p.statement.form)

-- whether it is a step
abbrev pub is_going : Option Spot → Bool
is_going (Some spots.Step) = true
is_going (Some spots.Back) = true
is_going s = false

abbrev pub is_step : Placed → Bool
is_step p = is_going (spot_in p.statement.form)

-- whether there are two lengths or more
abbrev pub has_several : List Offset → Bool
has_several (x ∷ y ∷ os) = true
has_several os = false

-- whether it is a slanted point, or one that is approached and left
abbrev pub is_slanted : Form → Bool
is_slanted (form.Shift l os) = has_several os && is_same_name slanted_name l
is_slanted f = false

abbrev pub is_slanted_placed : Placed → Bool
is_slanted_placed p = is_slanted p.statement.form

-- whether there are three lengths
abbrev pub are_three : List Offset → Bool
are_three (x ∷ y ∷ z ∷ []) = true
are_three os = false

-- whether it is a point that is approached and left along the direction of its feature
abbrev pub is_pointed : Form → Bool
is_pointed (form.Shift l os) = are_three os && is_same_name slanted_name l
is_pointed f = false

-- the same of a statement in its expansion
abbrev pub is_pointed_placed : Placed → Bool
is_pointed_placed p = is_pointed p.statement.form

-- whether a statement is a point
abbrev pub is_touch : Form → Bool
is_touch (form.Touch p d) = true
is_touch f = false

-- whether a value is a number
abbrev pub is_literal : Option Term → Bool
is_literal (Some (Number n)) = true
is_literal t = false

-- whether a statement sets the way back, by a number
abbrev pub sets_way_back : Form → Bool
sets_way_back (form.Configure settings.Retract e) = is_literal (leaf_in e)
sets_way_back f = false

-- whether an event is about the way back
abbrev pub is_way_back : Option Event → Bool
is_way_back (Some events.Retract) = true
is_way_back e = false

-- whether a statement may lose it: by such an event, or by a value that isn't a number
abbrev pub may_lose_way_back : Form → Bool
may_lose_way_back (form.Configure settings.Retract e) = not (is_literal (leaf_in e))
may_lose_way_back (form.Assignment t value) = is_way_back (event_named t.name)
may_lose_way_back f = false

-- the same of a statement in its expansion
abbrev pub may_lose_placed : Placed → Bool
may_lose_placed p = may_lose_way_back p.statement.form

-- whether a point stands above the first statement that sets the way back
abbrev pub is_unled : List Placed → Bool
is_unled [] = false
is_unled (p ∷ ps) = is_touch p.statement.form || (not (sets_way_back p.statement.form) && is_unled ps)

-- whether the way back of a point may not be known
abbrev pub may_halt : List Placed → Bool
may_halt ps = is_unled ps || list_any may_lose_placed ps

-- whether an event is a polar place, or angles in another unit than decimal degrees
abbrev pub is_polar_event : Option Event → Option Term → Bool
is_polar_event (Some events.Polar) value = true
is_polar_event (Some events.Angle) value = is_nothing value
is_polar_event e value = false

-- whether a statement is such an event
abbrev pub is_polar : Form → Bool
is_polar (form.Assignment t value) = is_polar_event (event_named t.name) (leaf_in value)
is_polar f = false

-- and so of a statement in its expansion
abbrev pub is_polar_placed : Placed → Bool
is_polar_placed p = is_polar p.statement.form

-- whether an event says one value more of a CASE
abbrev pub is_value_event : Option Event → Bool
is_value_event (Some events.CaseValue) = true
is_value_event e = false

-- whether a statement does
abbrev pub is_several : Form → Bool
is_several (form.Assignment t value) = is_value_event (event_named t.name)
is_several f = false

-- and so in its expansion
abbrev pub is_several_placed : Placed → Bool
is_several_placed p = is_several p.statement.form

-- whether an event is about a datum
abbrev pub is_datum_event : Option Event → Bool
is_datum_event (Some events.Bind) = true
is_datum_event (Some events.Origin) = true
is_datum_event e = false

-- whether a statement is
abbrev pub is_dated : Form → Bool
is_dated (form.Query t side l word) = is_datum_event (event_named t.name)
is_dated (form.Shift l os) = are_origins os
is_dated f = false

-- and so in its expansion
abbrev pub is_dated_placed : Placed → Bool
is_dated_placed p = is_dated p.statement.form

-- whether an event keeps a frame elsewhere
abbrev pub is_storing_event : Option Event → Bool
is_storing_event (Some events.StoreFrame) = true
is_storing_event e = false

-- whether a statement does
abbrev pub is_storing : Form → Bool
is_storing (form.Query t side l word) = is_storing_event (event_named t.name)
is_storing f = false

-- and so in its expansion
abbrev pub is_storing_placed : Placed → Bool
is_storing_placed p = is_storing p.statement.form

-- what holds of a text: whether it has jumps, whether the machine's frame has a name of its own, whether it has places that are kept or steps, a FROM, steps, points that
-- are approached and left, some of them along the directions of their features, points whose way back may not be known, polar places or angles in another unit, datums,
-- frames that are kept elsewhere, a CASE with several values, and whether values may be cut off
abbrev pub text_of : List Placed → Text
text_of ps = record {
  jumps = list_any is_jump_placed ps;
  machine = not (list_any names_machine_placed ps);
  spots = list_any is_spotted ps;
  from = list_any is_from ps;
  steps = list_any is_step ps;
  slants = may_halt ps || list_any is_slanted_placed ps;
  pointed = may_halt ps || list_any is_pointed_placed ps;
  halts = may_halt ps;
  polar = list_any is_polar_placed ps;
  datums = list_any is_dated_placed ps;
  saving = list_any is_storing_placed ps;
  several = list_any is_several_placed ps;
  cut = list_any is_cut_placed ps;
}

-- a value at the start
abbrev pub opens : Carried → ℤ → Guarded
opens c n = set 1 c (Plain (number n))

-- the names of the whole numbers that come first
unfoldable pub first_names : List (List ℕ)
first_names = map carried_name first_carried

-- and of those behind the truth value
unfoldable pub last_names : List (List ℕ)
last_names = map carried_name last_carried

-- the variables that carry what is known are declared
unfoldable pub declares_carried : List Guarded
declares_carried =
    stands 1 IMPLICIT (form.Declaration kinds.Int first_names)
    ∷ stands 1 IMPLICIT (form.Declaration kinds.Bool (carried_name carried.Asked ∷ []))
    ∷ stands 1 IMPLICIT (form.Declaration kinds.Int last_names) ∷ []

-- the machine's frame is kept
unfoldable pub keeps_machine : Bool → List Guarded
keeps_machine true = stands 1 0 (form.Shift machine_name (record { axis = axes.X; length = Plain (number (pos 0)) } ∷ [])) ∷ []
keeps_machine false = []

-- what is known at the start: all but the approach, the search and the way back; the probe is at home
unfoldable pub opening : List Guarded
opening = map (λ c. opens c (pos 1)) known_first ++ opens carried.Place (pos 2) ∷ []

-- angles in decimal degrees and the plane of X and Y are known at the start, in a text that asks for them
unfoldable pub opens_polar : Bool → List Guarded
opens_polar true = opens carried.Angle (pos 1) ∷ opens carried.Plane (pos 1) ∷ []
opens_polar false = []

-- what is carried of a text is declared
unfoldable pub declares_first : Text → List Guarded
declares_first text =
    declares_carried ++ (declares_kept text.spots ++ (declares_slanted text.slants ++ (declares_datums text.datums ++ declares_choices text.several)))

-- what is known at its start
unfoldable pub opens_first : Text → List Guarded
opens_first text = keeps_machine text.machine ++ (opening ++ opens_polar text.polar)

-- what a text is put as
abbrev pub guarded : List Placed → List Guarded
guarded ps = declares_first (text_of ps) ++ (opens_first (text_of ps) ++ guards_from (text_of ps) (made_by ps) (begun_in (text_of ps).cut) ps)
