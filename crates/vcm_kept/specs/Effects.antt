-- What the statements of a block may do to what is known, and what isn't known any more where it isn't known whether they are carried out.
use Rattle.std.specs.Prelude.{ℕ, ℤ, pos, Bool, true, false, ◌||◌, if◌then◌else◌, List, [], ◌∷◌, ◌++◌, drop, Option, Some, None}
use Rattle.std.specs.List.{flat_map}
use Rattle.vcm_spec.specs.Setup.{Variable}
use Rattle.vcm_spec.specs.Program.{is_same_name}
use Rattle.vcm_items.specs.Names.{variable_of}
use Rattle.vcm_expr.specs.Source.{Plain}
use Rattle.vcm_forms.specs.declared.statement.Target.{Target}
use Rattle.vcm_forms.specs.declared.statement.Form.{Form}
use Rattle.vcm_forms.specs.declared.statement.Form.TheVariants as form
use Rattle.vcm_remarks.specs.declared.remark.Cause.TheVariants as causes
use Rattle.vcm_events.specs.declared.event.Event.{Event}
use Rattle.vcm_events.specs.declared.event.Event.TheVariants as events
use Rattle.vcm_events.specs.Events.{event_named}
use Rattle.vcm_events.specs.declared.spots.Spot.{Spot}
use Rattle.vcm_events.specs.declared.spots.Spot.TheVariants as spots
use Rattle.vcm_events.specs.Spots.{spot_named, slanted_name}
use Rattle.vcm_templates.specs.declared.guarded.Guarded.{Guarded}
use Rattle.vcm_templates.specs.declared.carried.Carried.TheVariants as carried
use Rattle.vcm_templates.specs.declared.carried.Item.TheVariants as items
use Rattle.vcm_templates.specs.declared.carried.TheConstants.{FEATURES_STEP, UNKNOWN_SENSOR}
use Rattle.vcm_templates.specs.declared.lengths.Kept.TheVariants as kept
use Rattle.vcm_remarks.specs.declared.remark.Remark.TheVariants.{AnotherTip}
use Rattle.vcm_templates.specs.Carried.{carried_term, carried_target}
use Rattle.vcm_templates.specs.Expressions.{number, truth}
use Rattle.vcm_templates.specs.Templates.{remarks, set, set_item, lose, raise, untried, lose_all, to_the_end, lose_frame}
use Rattle.vcm_kept.specs.declared.effects.Effects.{Effects}
use Rattle.vcm_kept.specs.Places.{forgets}

-- ---- what statements may do

-- nothing
abbrev pub no_effects : Effects
no_effects = record { moves = false; modes = false; tables = false; scans = false; units = false; selects = false; tips = false; settings = false; frames = false; features = false; values = false; spots = false; planes = false; leaves = false; all = false }

-- what one or the other may do
abbrev pub either_effects : Effects → Effects → Effects
either_effects a b = record {
  moves = a.moves || b.moves;
  modes = a.modes || b.modes;
  tables = a.tables || b.tables;
  scans = a.scans || b.scans;
  units = a.units || b.units;
  selects = a.selects || b.selects;
  tips = a.tips || b.tips;
  settings = a.settings || b.settings;
  frames = a.frames || b.frames;
  features = a.features || b.features;
  values = a.values || b.values;
  spots = a.spots || b.spots;
  planes = a.planes || b.planes;
  leaves = a.leaves || b.leaves;
  all = a.all || b.all;
}

-- it may move the probe; change the mode; turn a table; scan; set another unit; bring the probe elsewhere, as another sensor does; put on another tip; set distances; make frames; measure or declare features; set any variable; keep a place; go on elsewhere;
-- do anything
abbrev pub may_move : Effects
may_move = record no_effects { moves = true }

abbrev pub may_switch : Effects
may_switch = record no_effects { modes = true; selects = true }

abbrev pub may_turn : Effects
may_turn = record no_effects { tables = true; selects = true }

abbrev pub may_scan : Effects
may_scan = record no_effects { scans = true }

abbrev pub may_convert : Effects
may_convert = record no_effects { units = true }

abbrev pub may_select : Effects
may_select = record no_effects { selects = true }

abbrev pub may_widen : Effects
may_widen = record no_effects { tips = true }

abbrev pub may_put_on : Effects
may_put_on = record no_effects { selects = true; tips = true }

abbrev pub may_set : Effects
may_set = record no_effects { settings = true }

abbrev pub may_frame : Effects
may_frame = record no_effects { frames = true }

abbrev pub may_declare : Effects
may_declare = record no_effects { features = true }

abbrev pub may_measure : Effects
may_measure = record no_effects { moves = true; features = true }

abbrev pub may_keep : Effects
may_keep = record no_effects { spots = true }

-- and change the plane of polar places, or the unit of angles
abbrev pub may_plane : Effects
may_plane = record no_effects { planes = true }

-- what an event may do
abbrev pub event_effects : Event → Effects
event_effects events.Mode = may_switch
event_effects events.Table = may_turn
event_effects events.Scanning = may_scan
event_effects events.Unit = may_convert
event_effects events.OwnPoints = may_switch
event_effects events.Place = may_select
event_effects events.Sensor = may_put_on
event_effects events.Probe = may_put_on
event_effects events.Width = may_widen
event_effects events.Approach = may_set
event_effects events.Search = may_set
event_effects events.Retract = may_set
event_effects events.Clearance = may_set
event_effects events.Compensation = may_set
event_effects events.Qualification = may_set
event_effects events.Untried = may_move
event_effects events.Target = may_move
event_effects events.UntriedPoint = may_measure
event_effects events.Points = may_measure
event_effects events.Values = record no_effects { values = true }
event_effects events.Features = may_declare
event_effects events.Frames = may_frame
event_effects events.Frame = may_frame
event_effects events.Saving = may_frame
event_effects events.Machine = may_frame
event_effects events.Angle = may_plane
event_effects events.Plane = may_plane
event_effects events.Polar = no_effects
event_effects events.PolarMotion = may_move
event_effects events.PolarPoint = may_measure
event_effects events.Bind = no_effects
event_effects events.Origins = no_effects
event_effects events.Origin = no_effects
event_effects events.DropFrame = may_frame
event_effects events.StoreFrame = may_frame
event_effects events.DropFeature = may_declare
event_effects events.Remake = may_declare
event_effects events.Depth = no_effects
event_effects events.Unreported = no_effects
event_effects events.CaseValue = no_effects
event_effects events.CaseBegins = no_effects
event_effects events.Ends = record no_effects { leaves = true }
event_effects events.All = record no_effects { all = true }

-- what an assignment may do, beside what it does to its variable
abbrev pub assignment_effects : Option Event → Effects
assignment_effects None = no_effects
assignment_effects (Some e) = event_effects e

-- what a FEAT may do, or a place that is none to go to at once
abbrev pub feature_effects : Option Spot → Effects
feature_effects None = may_declare
feature_effects (Some spots.Home) = may_keep
feature_effects (Some spots.Target) = may_keep
feature_effects (Some s) = may_move

-- what a statement may do
abbrev pub effects_of : Form → Effects
effects_of (form.Assignment t value) = assignment_effects (event_named t.name)
effects_of (form.Move p) = may_move
effects_of form.Home = may_move
effects_of (form.Feature l p d) = feature_effects (spot_named l)
effects_of (form.Measure l) = may_measure
effects_of (form.Touch p d) = may_measure
effects_of form.MeasureEnd = may_measure
effects_of (form.Configure which value) = may_set
effects_of (form.Shift l os) = if is_same_name slanted_name l then may_measure else may_frame
effects_of (form.Rotation l axis n) = may_frame
effects_of (form.Restore l) = may_frame
effects_of (form.Query t side l word) = assignment_effects (event_named t.name)
effects_of (form.Leap name) = record no_effects { leaves = true }
effects_of f = no_effects

-- an index, if there is one
abbrev pub listed_index : Option ℕ → List ℕ
listed_index None = []
listed_index (Some i) = i ∷ []

-- the index of the variable of an assignment, which isn't one of an event
abbrev pub assigned_index : List Variable → Target → Option Event → List ℕ
assigned_index vs t None = listed_index (variable_of vs t.expansion t.name)
assigned_index vs t (Some e) = []

-- the index of the variable that a statement sets, if it sets one
abbrev pub set_by : List Variable → Form → List ℕ
set_by vs (form.Assignment t value) = assigned_index vs t (event_named t.name)
set_by vs (form.Query t side l word) = listed_index (variable_of vs t.expansion t.name)
set_by vs (form.Repeat r) = listed_index (variable_of vs r.variable.expansion r.variable.name)
set_by vs f = []

-- ---- what isn't known any more

-- these statements, where something may be done
abbrev pub where_may : Bool → List Guarded → List Guarded
where_may true gs = gs
where_may false gs = []

-- the motions of a block aren't tried
unfoldable pub lose_motions : ℕ → List Guarded
lose_motions line = untried line ∷ set line carried.Single (Plain (number (pos 0))) ∷ []

-- the mode isn't known
unfoldable pub lose_modes : ℕ → List Guarded
lose_modes line = lose line carried.Mode causes.Mode ∷ lose line carried.OwnPoints causes.Mode ∷ []

-- nor whether the machine scans, nor which unit is in force
unfoldable pub lose_scans : ℕ → List Guarded
lose_scans line = lose line carried.Scanning causes.Scanning ∷ []

unfoldable pub lose_units : ℕ → List Guarded
lose_units line = lose line carried.Unit causes.Unit ∷ []

-- a table may be turned
unfoldable pub lose_tables : ℕ → List Guarded
lose_tables line = lose line carried.Table causes.Table ∷ []

-- the state of the machine that may be another one isn't known
unfoldable pub lose_machine : ℕ → Effects → List Guarded
lose_machine line e =
    where_may e.modes (lose_modes line) ++ (where_may e.tables (lose_tables line) ++ (where_may e.scans (lose_scans line) ++ where_may e.units (lose_units line)))

-- where the probe stands isn't, nor which sensor is selected
unfoldable pub lose_sensor : ℕ → List Guarded
lose_sensor line = set line carried.Place (Plain (number (pos 0))) ∷ set line carried.Sensor (Plain (number UNKNOWN_SENSOR)) ∷ []

-- another tip may be on
unfoldable pub other_tip : ℕ → List Guarded
other_tip line = remarks line 0 (form.Assignment (carried_target carried.Asked) (truth false)) AnotherTip ∷ []

-- the distances aren't
unfoldable pub lose_settings : ℕ → List Guarded
lose_settings line =
    lose line carried.Approach causes.Setting ∷ lose line carried.Search causes.Setting ∷ lose line carried.Retract causes.Setting
    ∷ lose line carried.Clearance causes.Setting ∷ lose line carried.Compensation causes.Setting ∷ lose line carried.Qualification causes.Setting ∷ []

-- no frame is
unfoldable pub lose_frames : ℕ → List Guarded
lose_frames line =
    lose_frame line ∷ set line carried.Floor (Plain (carried_term carried.Latest)) ∷ set line carried.Saving (Plain (number (pos 0))) ∷ []

-- no place that is kept is
unfoldable pub lose_kept : ℕ → List Guarded
lose_kept line = lose line carried.Home causes.Value ∷ forgets line kept.Home ∷ forgets line kept.Target ∷ []

-- what polar places hang on isn't
unfoldable pub lose_planes : ℕ → List Guarded
lose_planes line = set line carried.Angle (Plain (number (pos 0))) ∷ set line carried.Plane (Plain (number (pos 0))) ∷ []

-- the value of a variable isn't
abbrev pub lose_index : ℕ → ℕ → List Guarded
lose_index line i = set_item line items.Known i (Plain (number (pos 0))) ∷ []

-- what statements may have done to the machine that may have been carried out or not
unfoldable pub lose_state : ℕ → Effects → List Guarded
lose_state line e =
    where_may e.moves (lose_motions line) ++ (lose_machine line e ++ (where_may e.selects (lose_sensor line)
    ++ (where_may e.tips (other_tip line) ++ where_may e.settings (lose_settings line))))

-- and to what is saved: frames, features, values and places, and the plane
unfoldable pub lose_saved : ℕ → Effects → List Guarded
lose_saved line e =
    where_may e.frames (lose_frames line) ++ (where_may e.features (raise line carried.Features FEATURES_STEP ∷ [])
    ++ (where_may e.values (raise line carried.Values (pos 1) ∷ []) ++ (where_may e.spots (lose_kept line) ++ where_may e.planes (lose_planes line))))

-- all that they may have done, and the variables that they set
unfoldable pub lose_effects : ℕ → Effects → List ℕ → List Guarded
lose_effects line e is = lose_state line e ++ (lose_saved line e ++ flat_map (lose_index line) is)

-- the same, where they may do anything, or go on elsewhere: then it isn't known how the program goes on
abbrev pub lose_block : ℕ → Effects → List ℕ → List Guarded
lose_block line e is =
    if e.leaves then to_the_end line ∷ []
    else if e.all then lose_all line ++ untried line ∷ []
    else lose_effects line e is
