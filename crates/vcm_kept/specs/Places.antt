-- Places that are kept, steps from the probe's place, and points that are approached and left.
use Rattle.std.specs.Prelude.{ℕ, ℤ, pos, ◌&&◌, Bool, true, false, if◌then◌else◌, List, [], ◌∷◌, ◌++◌, map, Option, Some, None}
use Rattle.vcm_num.specs.declared.number.Kind.TheVariants as kinds
use Rattle.vcm_spec.specs.declared.expression.BinaryOp.{BinaryOp}
use Rattle.vcm_spec.specs.declared.expression.BinaryOp.TheVariants.{Add, Sub, Mul, Div, Compare}
use Rattle.vcm_spec.specs.declared.expression.Relation.TheVariants.{NotEqual}
use Rattle.vcm_spec.specs.declared.words.Setting.{Setting}
use Rattle.vcm_spec.specs.declared.words.Setting.TheVariants as settings
use Rattle.vcm_spec.specs.Setup.{Variable}
use Rattle.vcm_expr.specs.declared.typing.Want.TheVariants as wants
use Rattle.vcm_expr.specs.Source.{Source, Plain, Pair}
use Rattle.vcm_forms.specs.declared.statement.Coordinates.{Coordinates}
use Rattle.vcm_forms.specs.declared.statement.Offset.{Offset}
use Rattle.vcm_forms.specs.declared.statement.Form.TheVariants as form
use Rattle.vcm_remarks.specs.declared.remark.Remark.TheVariants.{Approached}
use Rattle.vcm_events.specs.Joined.{joined, pair}
use Rattle.vcm_templates.specs.declared.guarded.Guarded.{Guarded}
use Rattle.vcm_templates.specs.declared.carried.Carried.{Carried}
use Rattle.vcm_templates.specs.declared.carried.Carried.TheVariants as carried
use Rattle.vcm_templates.specs.declared.carried.TheConstants.{IMPLICIT}
use Rattle.vcm_templates.specs.declared.lengths.Length.{Length}
use Rattle.vcm_templates.specs.declared.lengths.Length.TheVariants as lengths
use Rattle.vcm_templates.specs.declared.lengths.Kept.{Kept}
use Rattle.vcm_templates.specs.declared.lengths.Kept.TheVariants as kept
use Rattle.vcm_templates.specs.Carried.{carried_name, carried_target, carried_term, length_name, length_target, length_term, frame_of, x_of, y_of, z_of, kept_place}
use Rattle.vcm_templates.specs.Expressions.{number, both, are_current, is_current, knows_frame, is_kept_here, has_form}
use Rattle.vcm_templates.specs.Templates.{stands, remarks, set, raise, untried, asks, asks_all, where_known, elsewhere, ends, goes, gone, untried_point}

-- ---- what has to be known

-- a place whose three lengths have forms
abbrev pub has_place : List Variable → Coordinates → Bool
has_place vs p = has_form vs wants.Length p.x && (has_form vs wants.Length p.y && has_form vs wants.Length p.z)

-- what has to be known of the variables of a place
unfoldable pub asks_place : ℕ → List Variable → Coordinates → List Guarded
asks_place line vs p = asks_all line vs p.x ++ (asks_all line vs p.y ++ asks_all line vs p.z)

-- what has to be known for a motion: a programmed mode, no table, millimetres, the frame
unfoldable pub motion_asks : Source
motion_asks = both knows_frame (are_current (carried.Mode ∷ carried.Table ∷ carried.Unit ∷ []))

-- for a length in a frame
unfoldable pub length_asks : Source
length_asks = both knows_frame (are_current (carried.Unit ∷ []))

-- and for a point, which is none of a scan
unfoldable pub point_asks : Source
point_asks = both motion_asks (are_current
    (carried.Scanning ∷ carried.OwnPoints ∷ carried.Approach ∷ carried.Search ∷ carried.Retract ∷ carried.Clearance ∷ carried.Compensation ∷ carried.Qualification ∷ []))

-- for a point that is approached and left, which has no search
unfoldable pub approach_asks : Source
approach_asks = both motion_asks (are_current
    (carried.Scanning ∷ carried.OwnPoints ∷ carried.Approach ∷ carried.Retract ∷ carried.Clearance ∷ carried.Compensation ∷ carried.Qualification ∷ []))

-- behind GOTARG the machine may go by its own ways, where it may take points of its own
abbrev pub aimed : Bool → Source → Source
aimed true e = both e (is_current carried.OwnPoints)
aimed false e = e

-- within a measurement the machine may go over a clearance surface first, where there is one, or scan, or take points of its own
abbrev pub within : Bool → Source → Source
within true e = both e (are_current (carried.Scanning ∷ carried.OwnPoints ∷ carried.Clearance ∷ []))
within false e = e

-- and for one that is approached alone, which has no way back either
unfoldable pub halt_asks : Source
halt_asks = both motion_asks (are_current
    (carried.Scanning ∷ carried.OwnPoints ∷ carried.Approach ∷ carried.Clearance ∷ carried.Compensation ∷ carried.Qualification ∷ []))

-- what has to be known of a way to a place: this, and the variables of the place
unfoldable pub asks_point : ℕ → List Variable → Source → Coordinates → List Guarded
asks_point line vs known p = asks line known ∷ (asks_place line vs p ++ goes line)

-- ---- places that are kept

-- a length that is carried gets a value
abbrev pub set_length : ℕ → Length → Source → Guarded
set_length line l e = stands line 0 (form.Assignment (length_target l) e)

-- nothing is known any more of a place that is kept
abbrev pub forgets : ℕ → Kept → Guarded
forgets line k = set line (frame_of k) (Plain (number (pos 0)))

-- a place is kept, as one of the current frame
unfoldable pub keeps_here : ℕ → Kept → Coordinates → List Guarded
keeps_here line k p =
    set_length line (x_of k) p.x ∷ set_length line (y_of k) p.y ∷ set_length line (z_of k) p.z
    ∷ set line (frame_of k) (Plain (carried_term carried.Frame)) ∷ []

-- a place whose lengths have forms is kept where they are known
unfoldable pub keeps_known : ℕ → List Variable → Kept → Coordinates → List Guarded
keeps_known line vs k p =
    asks line length_asks ∷ (asks_place line vs p ++ where_known line ∷ (keeps_here line k p ++ elsewhere line ∷ forgets line k ∷ ends line ∷ []))

-- a place is kept
abbrev pub keeps : ℕ → List Variable → Kept → Coordinates → List Guarded
keeps line vs k p = if has_place vs p then keeps_known line vs k p else forgets line k ∷ []

-- where a text has steps, the place that the probe comes to is kept
abbrev pub tracks : Bool → ℕ → Coordinates → List Guarded
tracks true line p = keeps_here line kept.Probe p
tracks false line p = []

-- and nothing is known of it where the probe comes to one that has no coordinates here
abbrev pub loses_track : Bool → ℕ → List Guarded
loses_track true line = forgets line kept.Probe ∷ []
loses_track false line = []

-- the way to a place that is kept
unfoldable pub goes_to : Bool → ℕ → Kept → Source → List Guarded
goes_to steps line k known =
    asks line (both known (is_kept_here k)) ∷ (goes line ++ stands line 0 (form.Move (kept_place k)) ∷ (tracks steps line (kept_place k) ++ gone line))

-- ---- motions

-- the way to a place whose lengths have forms
unfoldable pub moves_known : Bool → ℕ → ℕ → List Variable → (aiming measuring : Bool) → Coordinates → List Guarded
moves_known steps line e vs aiming measuring p =
    asks_point line vs (within measuring (aimed aiming motion_asks)) p ++ stands line e (form.Move p) ∷ (tracks steps line p ++ gone line)

-- GOTO
abbrev pub moves : Bool → ℕ → ℕ → List Variable → (aiming measuring : Bool) → Coordinates → List Guarded
moves steps line e vs aiming measuring p = if has_place vs p then moves_known steps line e vs aiming measuring p else untried line ∷ []

-- what has to be known for the way to the home of the part
unfoldable pub home_asks : Source
home_asks = are_current (carried.Mode ∷ carried.Table ∷ carried.Home ∷ [])

-- the way to the home of the part
unfoldable pub goes_home : (steps aiming measuring : Bool) → ℕ → ℕ → List Guarded
goes_home steps aiming measuring line e = asks line (within measuring (aimed aiming home_asks)) ∷ (goes line ++ stands line e form.Home ∷ (loses_track steps line ++ gone line))

-- GOHOME: behind a FROM it goes to its place, in the frame of that FROM
abbrev pub homes : (from steps aiming measuring : Bool) → ℕ → ℕ → List Guarded
homes false steps aiming measuring line e = goes_home steps aiming measuring line e
homes true steps aiming measuring line e =
    stands line 0 (form.Test (is_current carried.Home)) ∷ (goes_home steps aiming measuring line e
    ++ elsewhere line ∷ (goes_to steps line kept.Home (within measuring (aimed aiming motion_asks)) ++ ends line ∷ []))

-- ENDGO: the way to the target of GOTARG, if the text has one
abbrev pub reaches_target : (spots steps measuring : Bool) → ℕ → List Guarded
reaches_target true steps measuring line = goes_to steps line kept.Target (within measuring (aimed true motion_asks))
reaches_target false steps measuring line = untried line ∷ []

-- a place of three lengths, if there are
abbrev pub step_at : (x y z : Option Source) → Option Coordinates
step_at (Some x) (Some y) (Some z) = Some (record { x = x; y = y; z = z })
step_at x y z = None

-- the place at a step from the probe's
abbrev pub step_place : BinaryOp → Coordinates → Option Coordinates
step_place op p = step_at (joined op (Plain (length_term lengths.ProbeX)) p.x) (joined op (Plain (length_term lengths.ProbeY)) p.y) (joined op (Plain (length_term lengths.ProbeZ)) p.z)

-- what has to be known for a step: the probe stands where the machine's does, at a place of the current frame
unfoldable pub step_asks : Source
step_asks = both motion_asks (both (pair (Compare NotEqual) (carried_term carried.Place) (number (pos 0))) (is_kept_here kept.Probe))

-- a step of these lengths to a place
unfoldable pub steps_known : (aiming measuring : Bool) → ℕ → List Variable → Coordinates → Coordinates → List Guarded
steps_known aiming measuring line vs p q = asks_point line vs (within measuring (aimed aiming step_asks)) p ++ stands line 0 (form.Move q) ∷ (keeps_here line kept.Probe q ++ gone line)

-- a step to a place, if there is one
abbrev pub steps_to : (aiming measuring : Bool) → ℕ → List Variable → Coordinates → Option Coordinates → List Guarded
steps_to aiming measuring line vs p None = untried line ∷ []
steps_to aiming measuring line vs p (Some q) = steps_known aiming measuring line vs p q

-- GOTO/INCR
abbrev pub steps_by : (aiming measuring : Bool) → ℕ → List Variable → BinaryOp → Coordinates → List Guarded
steps_by aiming measuring line vs op p = if has_place vs p then steps_to aiming measuring line vs p (step_place op p) else untried line ∷ []

-- ---- points that are approached and left

-- so many thousandths of it
abbrev pub along : Option Source → Option Source
along None = None
along (Some e) = joined Div e (Plain (number (pos 1000)))

-- how far the tip's centre lies before a point on one axis: the distance and half the width of the tip, by the component of the direction
abbrev pub ahead : Length → Source → Option Source
ahead l c = along (joined Mul (pair Add (length_term l) (length_term lengths.Tip)) c)

-- a coordinate with this added, if both are there
abbrev pub added : Source → Option Source → Option Source
added e None = None
added e (Some f) = joined Add e f

-- the place before a point
abbrev pub before : Length → Coordinates → Coordinates → Option Coordinates
before l p d = step_at (added p.x (ahead l d.x)) (added p.y (ahead l d.y)) (added p.z (ahead l d.z))

-- 1 where the probe stands where the machine's does, else 0
abbrev pub stands_there : Bool → ℤ
stands_there true = pos 1
stands_there false = pos 0

-- behind a point that is approached, and left where the probe's place is known: it is no measured one
unfoldable pub left_behind : Bool → ℕ → Bool → List Guarded
left_behind steps line there =
    raise line carried.Points (pos 1) ∷ set line carried.Single (Plain (number (pos 0)))
    ∷ (loses_track steps line ++ remarks line 0 (form.Assignment (carried_target carried.Place) (Plain (number (stands_there there)))) Approached
    ∷ elsewhere line ∷ (untried_point line ++ ends line ∷ []))

-- a point that is approached from one place and left to another
unfoldable pub approaches_known : Bool → ℕ → List Variable → Source → (p a r : Coordinates) → List Guarded
approaches_known steps line vs known p a r =
    asks_point line vs known p ++ stands line 0 (form.Move a) ∷ stands line 0 (form.Move r) ∷ left_behind steps line true

-- the same, if there are such places
abbrev pub approaches_by : Bool → ℕ → List Variable → Source → Coordinates → (a r : Option Coordinates) → List Guarded
approaches_by steps line vs known p (Some a) (Some r) = approaches_known steps line vs known p a r
approaches_by steps line vs known p a r = untried_point line

-- a point with its direction, where this is known
abbrev pub approaches : Bool → ℕ → List Variable → Source → (p d : Coordinates) → List Guarded
approaches steps line vs known p d =
    if has_place vs p then approaches_by steps line vs known p (before lengths.Approach p d) (before lengths.Retract p d) else untried_point line

-- a point that is approached at a place, and from there the machine goes back by a way that isn't known
unfoldable pub halts_known : Bool → ℕ → List Variable → Source → (p a : Coordinates) → List Guarded
halts_known steps line vs known p a = asks_point line vs known p ++ stands line 0 (form.Move a) ∷ left_behind steps line false

-- the same, if there is such a place
abbrev pub halts_by : Bool → ℕ → List Variable → Source → Coordinates → Option Coordinates → List Guarded
halts_by steps line vs known p (Some a) = halts_known steps line vs known p a
halts_by steps line vs known p None = untried_point line

-- a point that is approached alone, with its direction
abbrev pub halts : Bool → ℕ → List Variable → Source → (p d : Coordinates) → List Guarded
halts steps line vs known p d = if has_place vs p then halts_by steps line vs known p (before lengths.Approach p d) else untried_point line

-- a slanted point, by its three coordinates and the three components of its direction; what has one length alone says how wide the tip is
abbrev pub slants : (slanted steps : Bool) → ℕ → List Variable → List Offset → List Guarded
slants true steps line vs (w ∷ []) = set_length line lengths.Tip w.length ∷ []
slants true steps line vs (x ∷ y ∷ z ∷ i ∷ j ∷ k ∷ []) =
    approaches steps line vs approach_asks (record { x = x.length; y = y.length; z = z.length }) (record { x = i.length; y = j.length; z = k.length })
slants slanted steps line vs os = []

-- the length of a setting, where a text has slanted points
abbrev pub keeps_setting : Bool → ℕ → Setting → Source → List Guarded
keeps_setting true line settings.Approach e = set_length line lengths.Approach e ∷ []
keeps_setting true line settings.Retract e = set_length line lengths.Retract e ∷ []
keeps_setting slanted line which e = []

-- ---- declarations

-- the lengths and numbers of places that are kept
abbrev pub kept_lengths : List Length
kept_lengths =
    lengths.HomeX ∷ lengths.HomeY ∷ lengths.HomeZ ∷ lengths.TargetX ∷ lengths.TargetY ∷ lengths.TargetZ ∷ lengths.ProbeX ∷ lengths.ProbeY
    ∷ lengths.ProbeZ ∷ []

abbrev pub kept_frames : List Carried
kept_frames = carried.HomeFrame ∷ carried.TargetFrame ∷ carried.ProbeFrame ∷ []

-- the lengths that slanted points ask for
abbrev pub slanted_lengths : List Length
slanted_lengths = lengths.Approach ∷ lengths.Retract ∷ lengths.Tip ∷ []

-- the names of lengths
unfoldable pub length_names : List Length → List (List ℕ)
length_names ls = map length_name ls

-- the variables of places that are kept are declared
unfoldable pub declares_kept : Bool → List Guarded
declares_kept true =
    stands 1 IMPLICIT (form.Declaration kinds.Real (length_names kept_lengths))
    ∷ stands 1 IMPLICIT (form.Declaration kinds.Int (map carried_name kept_frames)) ∷ []
declares_kept false = []

-- those of slanted points are
unfoldable pub declares_slanted : Bool → List Guarded
declares_slanted true = stands 1 IMPLICIT (form.Declaration kinds.Real (length_names slanted_lengths)) ∷ []
declares_slanted false = []
