-- What a statement does to what is known of the machine, and how it is said.
use Rattle.std.specs.Prelude.{ℕ, ℤ, pos, codes, List, [], ◌∷◌, Option}
use Rattle.vcm_num.specs.Words.{look_up}
use Rattle.vcm_num.specs.declared.number.Literal.TheVariants.{Int}
use Rattle.vcm_expr.specs.declared.expression.Term.TheVariants.{Number}
use Rattle.vcm_expr.specs.Source.{Source, Plain}
use Rattle.vcm_forms.specs.declared.statement.Form.{Form}
use Rattle.vcm_forms.specs.declared.statement.Form.TheVariants.{Assignment}
use Rattle.vcm_forms.specs.Statements.{as_read}
use Rattle.vcm_events.specs.declared.event.Event.{Event}
use Rattle.vcm_events.specs.declared.event.Event.TheVariants.{Mode, OwnPoints, Table, Scanning, Unit, Approach, Search, Retract, Clearance, Compensation, Qualification, Target, Place, Untried, UntriedPoint, Values, Features, Frames, Frame, Saving, Machine, Points, Sensor, Probe, Angle, Plane, Polar, PolarMotion, PolarPoint, Bind, Origins, Origin, CaseValue, DropFrame, DropFeature, StoreFrame, Width, Remake, Depth, Unreported, CaseBegins, Ends, All}

-- the names of the variables of events: no text can write them, since a variable of a text begins with a letter
abbrev pub event_name : Event → List ℕ
event_name Mode = codes "0MODE"
event_name OwnPoints = codes "0OWNPOINTS"
event_name Table = codes "0TABLE"
event_name Scanning = codes "0SCANNING"
event_name Unit = codes "0UNIT"
event_name Approach = codes "0APPROACH"
event_name Search = codes "0SEARCH"
event_name Retract = codes "0RETRACT"
event_name Clearance = codes "0CLEARANCE"
event_name Compensation = codes "0COMPENSATION"
event_name Qualification = codes "0QUALIFICATION"
event_name Target = codes "0TARGET"
event_name Place = codes "0PLACE"
event_name Untried = codes "0UNTRIED"
event_name UntriedPoint = codes "0UNTRIEDPOINT"
event_name Values = codes "0VALUES"
event_name Features = codes "0FEATURES"
event_name Frames = codes "0FRAMES"
event_name Frame = codes "0FRAME"
event_name Saving = codes "0SAVING"
event_name Machine = codes "0MACHINE"
event_name Points = codes "0POINTS"
event_name Sensor = codes "0SENSOR"
event_name Probe = codes "0PROBE"
event_name Angle = codes "0ANGLE"
event_name Plane = codes "0PLANE"
event_name Polar = codes "0POLAR"
event_name PolarMotion = codes "0POLARMOTION"
event_name PolarPoint = codes "0POLARPOINT"
event_name Bind = codes "0BIND"
event_name Origins = codes "0ORIGINS"
event_name Origin = codes "0ORIGIN"
event_name CaseValue = codes "0CASEVALUE"
event_name DropFrame = codes "0DROPFRAME"
event_name DropFeature = codes "0DROPFEATURE"
event_name StoreFrame = codes "0STOREFRAME"
event_name Width = codes "0WIDTH"
event_name Remake = codes "0REMAKE"
event_name Depth = codes "0DEPTH"
event_name Unreported = codes "0UNREPORTED"
event_name CaseBegins = codes "0CASEBEGINS"
event_name Ends = codes "0ENDS"
event_name All = codes "0ALL"

-- the event whose variable has this name
abbrev pub event_named : List ℕ → Option Event
event_named name = look_up
    ((codes "0MODE", Mode)
    ∷ (codes "0OWNPOINTS", OwnPoints)
    ∷ (codes "0TABLE", Table)
    ∷ (codes "0SCANNING", Scanning)
    ∷ (codes "0UNIT", Unit)
    ∷ (codes "0APPROACH", Approach)
    ∷ (codes "0SEARCH", Search)
    ∷ (codes "0RETRACT", Retract)
    ∷ (codes "0CLEARANCE", Clearance)
    ∷ (codes "0COMPENSATION", Compensation)
    ∷ (codes "0QUALIFICATION", Qualification)
    ∷ (codes "0TARGET", Target)
    ∷ (codes "0PLACE", Place)
    ∷ (codes "0UNTRIED", Untried)
    ∷ (codes "0UNTRIEDPOINT", UntriedPoint)
    ∷ (codes "0VALUES", Values)
    ∷ (codes "0FEATURES", Features)
    ∷ (codes "0FRAMES", Frames)
    ∷ (codes "0FRAME", Frame)
    ∷ (codes "0SAVING", Saving)
    ∷ (codes "0MACHINE", Machine)
    ∷ (codes "0POINTS", Points)
    ∷ (codes "0SENSOR", Sensor)
    ∷ (codes "0PROBE", Probe)
    ∷ (codes "0ANGLE", Angle)
    ∷ (codes "0PLANE", Plane)
    ∷ (codes "0POLAR", Polar)
    ∷ (codes "0POLARMOTION", PolarMotion)
    ∷ (codes "0POLARPOINT", PolarPoint)
    ∷ (codes "0BIND", Bind)
    ∷ (codes "0ORIGINS", Origins)
    ∷ (codes "0ORIGIN", Origin)
    ∷ (codes "0CASEVALUE", CaseValue)
    ∷ (codes "0DROPFRAME", DropFrame)
    ∷ (codes "0DROPFEATURE", DropFeature)
    ∷ (codes "0STOREFRAME", StoreFrame)
    ∷ (codes "0WIDTH", Width)
    ∷ (codes "0REMAKE", Remake)
    ∷ (codes "0DEPTH", Depth)
    ∷ (codes "0UNREPORTED", Unreported)
    ∷ (codes "0CASEBEGINS", CaseBegins)
    ∷ (codes "0ENDS", Ends)
    ∷ (codes "0ALL", All)
    ∷ []) name

-- an event with a value, as a statement: its variable gets it
abbrev pub valued : Event → Source → Form
valued e value = Assignment (as_read (event_name e)) value

-- an event with a number: 0 where something is lost
abbrev pub event_form : Event → ℤ → Form
event_form e n = valued e (Plain (Number (Int n)))

-- something is lost
abbrev pub lost : Event → Form
lost e = event_form e (pos 0)

-- something is known again, or happens
abbrev pub gained : Event → Form
gained e = event_form e (pos 1)
