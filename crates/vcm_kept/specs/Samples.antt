-- Worked examples: what expanded statements are put as, row by row, computed.
use Rattle.std.specs.Prelude.{◌≡◌, refl, ℕ, pos, true, false, List, [], ◌∷◌, ◌++◌, codes, Some, None}
use Rattle.vcm_num.specs.declared.axis.Axis.TheVariants.{PlusZ}
use Rattle.vcm_num.specs.declared.number.Kind.TheVariants as kinds
use Rattle.vcm_num.specs.declared.number.Literal.TheVariants.{Int}
use Rattle.vcm_spec.specs.declared.expression.BinaryOp.TheVariants.{Compare, Or, Sub, Mul}
use Rattle.vcm_spec.specs.declared.expression.Relation.TheVariants.{Equal, NotEqual, Greater}
use Rattle.vcm_spec.specs.declared.words.FrameAxis.TheVariants as axes
use Rattle.vcm_spec.specs.declared.words.FeatureWord.TheVariants as words
use Rattle.vcm_spec.specs.declared.words.Quarters.TheVariants as turns
use Rattle.vcm_spec.specs.declared.words.Setting.TheVariants.{Approach}
use Rattle.vcm_spec.specs.declared.words.Source.TheVariants.{Actual}
use Rattle.vcm_expr.specs.declared.expression.Term.TheVariants.{Number, Variable as Named}
use Rattle.vcm_expr.specs.Source.{Source, Plain, Pair}
use Rattle.vcm_forms.specs.declared.statement.Coordinates.{Coordinates}
use Rattle.vcm_forms.specs.declared.statement.Rounds.{Rounds}
use Rattle.vcm_forms.specs.declared.statement.Form.{Form}
use Rattle.vcm_forms.specs.declared.statement.Form.TheVariants as form
use Rattle.vcm_forms.specs.Statements.{as_read}
use Rattle.vcm_remarks.specs.declared.remark.Cause.TheVariants as causes
use Rattle.vcm_events.specs.declared.event.Event.TheVariants as events
use Rattle.vcm_events.specs.Events.{lost, gained, event_form}
use Rattle.vcm_events.specs.Joined.{pair}
use Rattle.vcm_events.specs.Unknown.{unknown, unknown_place, unknown_rounds}
use Rattle.vcm_events.specs.declared.spots.Spot.TheVariants as spots
use Rattle.vcm_events.specs.Spots.{spotted, slanted}
use Rattle.vcm_events.specs.Datums.{happens_to, bound, origin_on, origin_length}
use Rattle.vcm_templates.specs.declared.guarded.Guarded.{Guarded}
use Rattle.vcm_templates.specs.declared.carried.Carried.TheVariants as carried
use Rattle.vcm_templates.specs.declared.carried.TheConstants.{UNKNOWN_SENSOR}
use Rattle.vcm_templates.specs.declared.carried.Item.TheVariants as items
use Rattle.vcm_templates.specs.declared.lengths.Kept.TheVariants as kept
use Rattle.vcm_templates.specs.declared.lengths.Length.TheVariants as lengths
use Rattle.vcm_templates.specs.Carried.{carried_target, carried_term, item_term, length_target, length_term}
use Rattle.vcm_templates.specs.Expressions.{number, truth, both, is_known, is_current, are_current, knows_frame}
use Rattle.vcm_templates.specs.Templates.{stands, remarks, raise, set, set_item, lose, know, untried, asks, asks_variables, asks_within, asks_all, where_known, elsewhere, ends, goes, gone, untried_point, lose_frame, new_frame, frame_gone, sets_bound, sets_near}
use Rattle.vcm_templates.specs.Exact.{folded}
use Rattle.vcm_kept.specs.declared.text.Text.{Text}
use Rattle.vcm_kept.specs.Effects.{no_effects, other_tip}
use Rattle.vcm_kept.specs.Named.{keeps_stored}
use Rattle.vcm_remarks.specs.declared.remark.Remark.TheVariants.{AnotherTip, Approached, NotInFile}
use Rattle.vcm_templates.specs.declared.carried.TheConstants.{FEATURES_STEP}
use Rattle.vcm_kept.specs.Places.{asks_place, motion_asks, length_asks, point_asks, asks_point, halt_asks, left_behind, halts_known, halts, keeps_here, keeps_known, goes_to, moves_known, home_asks, goes_home, forgets}
use Rattle.vcm_kept.specs.Exactly.{exact_form}
use Rattle.vcm_kept.specs.Choices.{chosen_by, opens_case, adds_value, begins_case}
use Rattle.vcm_kept.specs.Datums.{origin_asks, goes_along, asks_origin, keeps_origin, origin_lost, frame_asks}
use Rattle.vcm_kept.specs.Late.{Made}
use Rattle.vcm_kept.specs.Guarding.{Reached, lates, reaches_form, begun, block, text_of, guards, know_variable, lose_variable, assigned_where, selects, unselected, misses_probe, point_goes, own_point, direction_asks, touches_declared, touches_itself, touches, touches_where, direction_of, features_at, nominal_where, setting_where, made_where, recalled_where, machine_name, recalls_machine, unreported, is_measured, obtains_here, measures, closes, unknown_asks, asks_rounds}

-- ---- what stands above

-- a text without anything that is asked for in a text as a whole
abbrev pub bare : Text
bare = text_of []

-- a REAL V, a whole number I, a feature A and a frame D stand above
abbrev pub above : Reached
above = record begun {
  variables = record { name = codes "V"; kind = kinds.Real; expansion = 0 } ∷ record { name = codes "I"; kind = kinds.Int; expansion = 0 } ∷ [];
  frames = codes "D" ∷ [];
  features = codes "A" ∷ [];
}

-- what a statement on line 9 is put as
abbrev pub puts : Form → List Guarded
puts f = guards bare above 9 0 (exact_form above.variables f)

-- a whole number
abbrev pub whole : ℕ → Source
whole n = Plain (Number (Int (pos n)))

-- a variable
abbrev pub variable : List ℕ → Source
variable name = Plain (Named name 0)

-- a place
abbrev pub place : Coordinates
place = record { x = whole 1; y = variable (codes "V"); z = whole 3 }

-- what has to be known of it besides
abbrev pub place_asked : List Guarded
place_asked = asks 9 (both (Plain (carried_term carried.Asked)) (is_known 0)) ∷ []

-- ---- values

-- a value is kept where the variables of its expression are known
pub value : puts (form.Assignment (as_read (codes "V")) (variable (codes "I")))
    ≡ asks 9 (truth true) ∷ asks 9 (both (Plain (carried_term carried.Asked)) (is_known 1)) ∷ where_known 9
    ∷ stands 9 0 (form.Assignment (as_read (codes "V")) (variable (codes "I"))) ∷ know_variable 9 0 ∷ elsewhere 9 ∷ lose_variable 9 0 ∷ ends 9 ∷ []
unfolding assigned_where asks_variables asks_within sets_bound
value = refl

-- a value that isn't known
pub value_lost : puts (form.Assignment (as_read (codes "V")) unknown) ≡ lose_variable 9 0 ∷ []
unfolding folded
value_lost = refl

-- a value of a feature
pub obtained : puts (form.Query (as_read (codes "V")) Actual (codes "A") words.X)
    ≡ asks 9 (both (is_measured 0) length_asks) ∷ where_known 9 ∷ stands 9 0 (form.Query (as_read (codes "V")) Actual (codes "A") words.X)
    ∷ know_variable 9 0 ∷ elsewhere 9 ∷ lose_variable 9 0 ∷ ends 9 ∷ []
unfolding obtains_here sets_near
obtained = refl

-- ---- motions

-- a motion asks for the frame and the state of the machine, and for the variables of its place
pub motion : puts (form.Move place) ≡ asks 9 motion_asks ∷ (place_asked ++ goes 9 ++ stands 9 0 (form.Move place) ∷ gone 9)
unfolding moves_known asks_point asks_place asks_all asks_variables asks_within
motion = refl

-- within a measurement it asks for the clearance surface besides, and that the machine neither scans nor takes points of its own
pub motion_within : guards bare (record above { within = true; measuring = Some (codes "A") }) 9 0 (form.Move place)
    ≡ asks 9 (both motion_asks (are_current (carried.Scanning ∷ carried.OwnPoints ∷ carried.Clearance ∷ []))) ∷ (place_asked ++ goes 9 ++ stands 9 0 (form.Move place) ∷ gone 9)
unfolding moves_known asks_point asks_place asks_all asks_variables asks_within
motion_within = refl

-- a motion to a place that isn't known
pub motion_untried : puts (form.Move unknown_place) ≡ untried 9 ∷ []
unfolding folded
motion_untried = refl

-- home by the part file
pub home : puts form.Home ≡ asks 9 home_asks ∷ (goes 9 ++ stands 9 0 form.Home ∷ gone 9)
unfolding goes_home
home = refl

-- home, where the text has a FROM
pub home_from : guards (record bare { from = true }) above 9 0 form.Home
    ≡ stands 9 0 (form.Test (is_current carried.Home)) ∷ (goes_home false false false 9 0 ++ elsewhere 9 ∷ (goes_to false 9 kept.Home motion_asks ++ ends 9 ∷ []))
home_from = refl

-- FROM keeps its place, and home is no more that of the part file
pub from : puts (spotted spots.Home place) ≡ keeps_known 9 above.variables kept.Home place ++ lose 9 carried.Home causes.Value ∷ []
from = refl

-- GOTARG keeps its place
pub target : puts (spotted spots.Target place)
    ≡ asks 9 length_asks ∷ (place_asked ++ where_known 9 ∷ (keeps_here 9 kept.Target place ++ elsewhere 9 ∷ forgets 9 kept.Target ∷ ends 9 ∷ []))
unfolding keeps_known asks_place asks_all asks_variables asks_within
target = refl

-- ENDGO goes there, where the text has a GOTARG
pub target_reached : guards (record bare { spots = true }) above 9 0 (gained events.Target) ≡ goes_to false 9 kept.Target (both motion_asks (is_current carried.OwnPoints))
target_reached = refl

-- ---- points

-- MEAS
pub measurement : puts (form.Measure (codes "A"))
    ≡ set 9 carried.Points (Plain (number (pos 0))) ∷ set 9 carried.Wanted (Plain (number (pos 1))) ∷ set 9 carried.Single (Plain (number (pos 1))) ∷ []
unfolding measures
measurement = refl

-- a point of a feature that is declared
pub touch : guards bare (record above { within = true; measuring = Some (codes "A") }) 9 0 (form.Touch place (Some PlusZ))
    ≡ asks 9 (direction_asks 0 (Some PlusZ)) ∷ (place_asked ++ goes 9 ++ point_goes false 9 0 (codes "A") place (Some PlusZ))
unfolding touches_declared asks_point asks_place asks_all asks_variables asks_within
touch = refl

-- a point of another feature
pub touch_itself : guards bare (record above { within = true; measuring = Some (codes "B") }) 9 0 (form.Touch place (Some PlusZ))
    ≡ asks 9 point_asks ∷ (place_asked ++ goes 9 ++ own_point false 9 0 (codes "B") place PlusZ)
unfolding touches_itself asks_point asks_place asks_all asks_variables asks_within
touch_itself = refl

-- a point outside of measurements
pub touch_untried : puts (form.Touch place (Some PlusZ)) ≡ untried_point 9
touch_untried = refl

-- a point of a text in which the way back may not be known: where it isn't, the point is approached alone
pub touch_unled : guards (record bare { halts = true }) (record above { within = true; measuring = Some (codes "A") }) 9 0 (form.Touch place (Some PlusZ))
    ≡ stands 9 0 (form.Test (is_current carried.Retract)) ∷ (touches false 9 0 above.variables above.features place (Some PlusZ) (Some (codes "A"))
    ++ elsewhere 9 ∷ (halts false 9 above.variables halt_asks place (direction_of PlusZ) ++ ends 9 ∷ []))
unfolding touches_where
touch_unled = refl

-- a point that is approached at a place: the probe stands nowhere that is known behind it
pub halted : halts_known false 9 above.variables halt_asks place place
    ≡ asks 9 halt_asks ∷ (place_asked ++ goes 9 ++ stands 9 0 (form.Move place) ∷ raise 9 carried.Points (pos 1) ∷ set 9 carried.Single (Plain (number (pos 0)))
    ∷ remarks 9 0 (form.Assignment (carried_target carried.Place) (Plain (number (pos 0)))) Approached ∷ elsewhere 9 ∷ (untried_point 9 ++ ends 9 ∷ []))
unfolding halts_known left_behind asks_point asks_place asks_all asks_variables asks_within
halted = refl

-- a slanted point with a place that isn't known
pub slant_untried : guards (record bare { slants = true }) above 9 0 (slanted unknown_place (pos 600) (pos 0) (pos 800)) ≡ untried_point 9
slant_untried = refl

-- ---- frames and features

-- FEAT
pub feature : puts (form.Feature (codes "A") place PlusZ)
    ≡ asks 9 length_asks ∷ (place_asked ++ where_known 9 ∷ stands 9 0 (form.Feature (codes "A") place PlusZ) ∷ nominal_where 9 0)
unfolding features_at asks_place asks_all asks_variables asks_within
feature = refl

-- TRANS
pub shift : puts (form.Shift (codes "D") (record { axis = axes.X; length = whole 5 } ∷ []))
    ≡ asks 9 length_asks ∷ where_known 9 ∷ stands 9 0 (form.Shift (codes "D") (record { axis = axes.X; length = whole 5 } ∷ [])) ∷ made_where bare 9 0
unfolding asks_all asks_variables asks_within
shift = refl

-- a frame that isn't known
pub frame_unknown : puts (form.Shift (codes "D") []) ≡ lose_frame 9 ∷ set_item 9 items.Saved 0 (Plain (number (pos 0))) ∷ []
unfolding frame_gone
frame_unknown = refl

-- RECALL, where the frame is known
pub restored : puts (form.Restore (codes "D"))
    ≡ stands 9 0 (form.Test (pair (Compare Greater) (item_term items.Saved 0) (carried_term carried.Floor))) ∷ stands 9 0 (form.Restore (codes "D")) ∷ recalled_where false 9 0
restored = refl

-- RECALL of a frame that the text doesn't have
pub restored_unknown : puts (form.Restore (codes "B")) ≡ lose_frame 9 ∷ []
restored_unknown = refl

-- DATDEF: the feature is a datum as it was measured last
pub bound_here : puts (bound (codes "A")) ≡ set_item 9 items.Bound 0 (Plain (item_term items.Measured 0)) ∷ []
bound_here = refl

-- an origin that lies on it: it asks that the feature was measured in this frame and not again since, and that its direction goes along the axis
pub origin : puts (origin_on axes.Z (codes "A"))
    ≡ asks 9 (origin_asks 0) ∷ where_known 9 ∷ stands 9 0 (form.Query (length_target lengths.Along) Actual (codes "A") words.K) ∷ asks 9 goes_along ∷ ends 9
    ∷ where_known 9 ∷ stands 9 0 (form.Query (length_target lengths.OriginZ) Actual (codes "A") words.Z) ∷ elsewhere 9 ∷ origin_lost 9 ∷ ends 9 ∷ []
unfolding asks_origin keeps_origin
origin = refl

-- an origin on a feature that isn't declared
pub origin_unknown : puts (origin_on axes.Z (codes "B")) ≡ origin_lost 9 ∷ []
origin_unknown = refl

-- the frame, where all its origins are known
pub framed : puts (form.Shift (codes "D") (record { axis = axes.Z; length = origin_length } ∷ []))
    ≡ asks 9 frame_asks ∷ where_known 9
    ∷ stands 9 0 (form.Shift (codes "D") (record { axis = axes.Z; length = Plain (length_term lengths.OriginZ) } ∷ [])) ∷ made_where bare 9 0
framed = refl

-- ROTATE, in a text that has datums: the axes are others behind it
pub turned : guards (record bare { datums = true }) above 9 0 (form.Rotation (codes "D") axes.Z turns.One)
    ≡ asks 9 length_asks ∷ where_known 9 ∷ stands 9 0 (form.Rotation (codes "D") axes.Z turns.One) ∷ set 9 carried.Straight (Plain (number (pos 0))) ∷ made_where (record bare { datums = true }) 9 0
turned = refl

-- DELETE of a frame and of a feature, by their names
pub frame_deleted : puts (happens_to events.DropFrame (codes "D")) ≡ set_item 9 items.Saved 0 (Plain (number (pos 0))) ∷ []
frame_deleted = refl

pub feature_deleted : puts (happens_to events.DropFeature (codes "A"))
    ≡ set_item 9 items.Nominal 0 (Plain (number (pos 0))) ∷ set_item 9 items.Measured 0 (Plain (number (pos 0))) ∷ []
feature_deleted = refl

-- of names that don't stand above: any may be deleted
pub other_frame_deleted : puts (happens_to events.DropFrame (codes "B")) ≡ set 9 carried.Floor (Plain (carried_term carried.Latest)) ∷ []
other_frame_deleted = refl

pub other_feature_deleted : puts (happens_to events.DropFeature (codes "B")) ≡ raise 9 carried.Features FEATURES_STEP ∷ []
other_feature_deleted = refl

-- SAVE: made again, the frame isn't known by its name
pub stored : puts (happens_to events.StoreFrame (codes "D")) ≡ set_item 9 items.Stored 0 (Plain (number (pos 1))) ∷ []
stored = refl

pub kept_again : keeps_stored true 9 0
    ≡ set_item 9 items.Saved 0 (Pair Mul (Plain (item_term items.Saved 0)) (pair Sub (number (pos 1)) (item_term items.Stored 0))) ∷ []
kept_again = refl

-- a tip of another width
pub widened : puts (lost events.Width) ≡ remarks 9 0 (form.Assignment (carried_target carried.Asked) (truth false)) AnotherTip ∷ []
unfolding other_tip
widened = refl

-- the machine's frame
pub machine : puts (gained events.Machine) ≡ stands 9 0 (form.Restore machine_name) ∷ new_frame 9
unfolding recalls_machine new_frame
machine = refl

-- ---- choices and loops

-- IF by a value that is known where I is
pub test : puts (form.Test (Pair (Compare Equal) (variable (codes "I")) (whole 1)))
    ≡ asks 9 (truth true) ∷ asks 9 (both (Plain (carried_term carried.Asked)) (is_known 1)) ∷ where_known 9
    ∷ stands 9 0 (form.Test (Pair (Compare Equal) (variable (codes "I")) (whole 1))) ∷ []
unfolding asks_all asks_variables asks_within
test = refl

-- IF by a value that isn't known
pub test_unknown : puts (form.Test unknown) ≡ asks 9 (truth false) ∷ where_known 9 ∷ stands 9 0 (form.Test (truth false)) ∷ []
unfolding unknown_asks folded
test_unknown = refl

-- its end, where motions stand between: elsewhere they aren't tried
pub test_end : guards bare (record above { blocks = record (block 7 None 0 []) { effects = record no_effects { moves = true } } ∷ [] }) 9 0 form.TestEnd
    ≡ stands 9 0 form.TestEnd ∷ closes 7 (record no_effects { moves = true }) []
test_end = refl

-- DO
abbrev pub rounds : Rounds
rounds = record { variable = as_read (codes "I"); initial = whole 1; limit = whole 3; increment = None }

pub loop : puts (form.Repeat rounds) ≡ asks 9 (truth true) ∷ where_known 9 ∷ stands 9 0 (form.Repeat rounds) ∷ know_variable 9 1 ∷ []
unfolding asks_rounds asks_all asks_variables asks_within
loop = refl

-- DO by a value that isn't known
pub loop_unknown : puts (form.Repeat unknown_rounds) ≡ asks 9 (truth false) ∷ where_known 9 ∷ stands 9 0 (form.Test (truth false)) ∷ []
unfolding unknown_asks folded
loop_unknown = refl

-- SELECT
pub choice : puts (form.Choose (whole 2)) ≡ asks 9 (truth true) ∷ where_known 9 ∷ stands 9 0 (form.Choose (whole 2)) ∷ []
unfolding asks_all asks_variables asks_within
choice = refl

-- SELECT by a value that isn't known
pub choice_unknown : puts (form.Choose unknown) ≡ asks 9 (truth false) ∷ where_known 9 ∷ stands 9 0 (form.Choose (whole 0)) ∷ []
unfolding unknown_asks folded
choice_unknown = refl

-- ---- SELECT, where a CASE has several values

-- a text with such a CASE, and a SELECT that is open
abbrev pub split : Text
split = record bare { several = true }

abbrev pub inside : Reached
inside = record above { blocks = block 7 None 0 [] ∷ [] }

-- SELECT: its value is kept, and no block is taken so far
pub choice_kept : guards split above 9 0 (form.Choose (whole 2))
    ≡ asks 9 (truth true) ∷ where_known 9 ∷ set_item 9 items.Chosen 0 (whole 2) ∷ set_item 9 items.Open 0 (whole 1) ∷ stands 9 0 (form.Test (truth true)) ∷ []
unfolding asks_all asks_variables asks_within chosen_by
choice_kept = refl

-- CASE: where none is taken so far it is asked whether it is this value
pub case_asked : guards split inside 9 0 (form.Case (pos 1))
    ≡ stands 9 0 (form.Test (pair (Compare Equal) (item_term items.Open 0) (number (pos 1))))
    ∷ asks 9 (pair (Compare Equal) (item_term items.Chosen 0) (number (pos 1))) ∷ []
unfolding opens_case
case_asked = refl

-- or another one
pub value_added : guards split inside 9 0 (event_form events.CaseValue (pos 2))
    ≡ asks 9 (Pair Or (Plain (carried_term carried.Asked)) (pair (Compare Equal) (item_term items.Chosen 0) (number (pos 2)))) ∷ []
unfolding adds_value
value_added = refl

-- its block is taken
pub case_taken : guards split inside 9 0 (gained events.CaseBegins) ≡ where_known 9 ∷ set_item 9 items.Open 0 (whole 0) ∷ []
unfolding begins_case
case_taken = refl

-- ENDCAS
pub case_ended : guards split inside 9 0 form.CaseEnd ≡ ends 9 ∷ ends 9 ∷ []
case_ended = refl

-- where each CASE has one value all stands as it is
pub case_alone : guards bare inside 9 0 (form.Case (pos 1)) ++ guards bare inside 9 0 (gained events.CaseBegins) ≡ stands 9 0 (form.Case (pos 1)) ∷ []
case_alone = refl

-- ---- the machine

-- a mode that isn't programmed
pub by_hand : puts (lost events.Mode) ≡ lose 9 carried.Mode causes.Mode ∷ set 9 carried.Place (Plain (number (pos 0))) ∷ []
by_hand = refl

-- a programmed one
pub programmed : puts (gained events.Mode) ≡ know 9 carried.Mode ∷ []
programmed = refl

-- a table
pub table : puts (lost events.Table) ≡ lose 9 carried.Table causes.Table ∷ set 9 carried.Place (Plain (number (pos 0))) ∷ []
table = refl

-- a sensor, by the line that selects it
pub sensor : puts (event_form events.Sensor (pos 4)) ≡ selects 9 (pair (Compare NotEqual) (carried_term carried.Sensor) (number (pos 4))) (whole 4)
sensor = refl

-- a sensor that isn't known
pub sensor_unknown : puts (lost events.Sensor) ≡ unselected 9
sensor_unknown = refl

-- a probe of a file, by its number; in a text with steps from the probe's place too; and one that the file hasn't
pub probe : puts (event_form events.Probe (pos 2)) ≡ set 9 carried.Sensor (whole 2) ∷ []
probe = refl

pub probe_within_steps : guards (record bare { steps = true }) above 9 0 (event_form events.Probe (pos 2))
    ≡ set 9 carried.ProbeFrame (whole 0) ∷ set 9 carried.Sensor (whole 2) ∷ []
probe_within_steps = refl

pub probe_missing : puts (lost events.Probe)
    ≡ remarks 9 0 (form.Assignment (carried_target carried.Place) (whole 0)) NotInFile ∷ set 9 carried.Sensor (Plain (number UNKNOWN_SENSOR)) ∷ []
unfolding misses_probe
probe_missing = refl

-- a setting
pub setting : puts (form.Configure Approach (whole 2))
    ≡ asks 9 (are_current (carried.Unit ∷ [])) ∷ where_known 9 ∷ stands 9 0 (form.Configure Approach (whole 2)) ∷ setting_where 9 carried.Approach
unfolding asks_all asks_variables asks_within
setting = refl

-- a setting that isn't known
pub setting_lost : puts (form.Configure Approach unknown) ≡ lose 9 carried.Approach causes.Setting ∷ []
unfolding folded
setting_lost = refl

-- OUTPUT
pub report : puts (form.Report Actual (codes "A"))
    ≡ asks 9 (both knows_frame (is_measured 0)) ∷ where_known 9 ∷ stands 9 0 (form.Report Actual (codes "A")) ∷ elsewhere 9 ∷ unreported 9 ∷ ends 9 ∷ []
report = refl

-- ---- what is made below in writing

-- a text that makes the frame B and the feature B below
abbrev pub below : Made
below = record { frames = codes "B" ∷ []; features = codes "B" ∷ []; variables = as_read (codes "W") ∷ [] }

-- a frame that isn't known, whose name is made below: what was saved under it isn't known any more
pub frame_below : lates below above 9 (form.Shift (codes "B") []) ≡ set 9 carried.Floor (Plain (carried_term carried.Latest)) ∷ []
frame_below = refl

-- and one that is made above
pub frame_above : lates below above 9 (form.Shift (codes "D") []) ≡ []
frame_above = refl

-- a feature, a variable, output
pub feature_below : lates below above 9 (form.Feature (codes "B") unknown_place PlusZ) ≡ raise 9 carried.Features FEATURES_STEP ∷ []
unfolding folded
feature_below = refl

pub value_below : lates below above 9 (form.Assignment (as_read (codes "W")) (whole 1)) ≡ raise 9 carried.Values (pos 1) ∷ []
value_below = refl

pub output_below : lates below above 9 (form.Report Actual (codes "B")) ≡ unreported 9 ∷ []
output_below = refl

-- behind ELSE it isn't sure which feature a MEAS of the branch before measures
pub other_branch : (reaches_form (reaches_form (reaches_form above 8 0 (form.Test (truth true))) 9 0 (form.Measure (codes "A"))) 10 0 form.Otherwise).measuring ≡ None
unfolding folded
other_branch = refl
