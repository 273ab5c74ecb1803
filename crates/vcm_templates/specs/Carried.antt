-- The variables that carry what is known of the machine.
use Rattle.std.specs.Prelude.{ℕ, ◌-◌, codes, List, [], ◌∷◌}
use Rattle.vcm_expr.specs.declared.expression.Term.{Term}
use Rattle.vcm_expr.specs.declared.expression.Term.TheVariants.{Variable}
use Rattle.vcm_forms.specs.declared.statement.Target.{Target}
use Rattle.vcm_templates.specs.declared.carried.Carried.{Carried}
use Rattle.vcm_templates.specs.declared.carried.Carried.TheVariants as carried
use Rattle.vcm_templates.specs.declared.lengths.Length.{Length}
use Rattle.vcm_templates.specs.declared.lengths.Length.TheVariants as lengths
use Rattle.vcm_templates.specs.declared.lengths.Kept.{Kept}
use Rattle.vcm_templates.specs.declared.lengths.Kept.TheVariants as kept
use Rattle.vcm_forms.specs.declared.statement.Coordinates.{Coordinates}
use Rattle.vcm_expr.specs.Source.{Plain}
use Rattle.vcm_templates.specs.declared.carried.Item.{Item}
use Rattle.vcm_templates.specs.declared.carried.Item.TheVariants as items
use Rattle.vcm_templates.specs.declared.carried.TheConstants.{IMPLICIT}

-- the names of what is carried; their expansion is one that no text reaches
abbrev pub carried_name : Carried → List ℕ
carried_name carried.Frame = codes "FRAME"
carried_name carried.Latest = codes "LATEST"
carried_name carried.Mode = codes "MODE"
carried_name carried.Table = codes "TABLE"
carried_name carried.Scanning = codes "SCANNING"
carried_name carried.Unit = codes "UNIT"
carried_name carried.Place = codes "PLACE"
carried_name carried.Approach = codes "APPROACH"
carried_name carried.Search = codes "SEARCH"
carried_name carried.Retract = codes "RETRACT"
carried_name carried.Asked = codes "ASKED"
carried_name carried.Epoch = codes "EPOCH"
carried_name carried.OwnPoints = codes "OWNPOINTS"
carried_name carried.Clearance = codes "CLEARANCE"
carried_name carried.Compensation = codes "COMPENSATION"
carried_name carried.Qualification = codes "QUALIFICATION"
carried_name carried.Home = codes "HOME"
carried_name carried.Floor = codes "FLOOR"
carried_name carried.Saving = codes "SAVING"
carried_name carried.Values = codes "VALUES"
carried_name carried.Features = codes "FEATURES"
carried_name carried.Points = codes "POINTS"
carried_name carried.Wanted = codes "WANTED"
carried_name carried.Single = codes "SINGLE"
carried_name carried.Sensor = codes "SENSOR"
carried_name carried.Touched = codes "TOUCHED"
carried_name carried.HomeFrame = codes "HOMEFRAME"
carried_name carried.TargetFrame = codes "TARGETFRAME"
carried_name carried.ProbeFrame = codes "PROBEFRAME"
carried_name carried.Angle = codes "ANGLE"
carried_name carried.Plane = codes "PLANE"
carried_name carried.Straight = codes "STRAIGHT"
carried_name carried.Origins = codes "ORIGINS"

-- the names of what is carried of each variable, frame, feature and SELECT of the text; their expansions tell them apart
abbrev pub item_name : Item → List ℕ
item_name items.Known = codes "KNOWN"
item_name items.Saved = codes "SAVED"
item_name items.Measured = codes "MEASURED"
item_name items.Nominal = codes "NOMINAL"
item_name items.AlongX = codes "ALONGX"
item_name items.AlongY = codes "ALONGY"
item_name items.AlongZ = codes "ALONGZ"
item_name items.Beside = codes "BESIDE"
item_name items.Bound = codes "BOUND"
item_name items.Axes = codes "AXES"
item_name items.Chosen = codes "CHOSEN"
item_name items.Open = codes "OPEN"
item_name items.Stored = codes "STORED"

-- what is carried, as the target of an assignment
abbrev pub carried_target : Carried → Target
carried_target c = record { name = carried_name c; expansion = IMPLICIT }

-- what is carried, in an expression
abbrev pub carried_term : Carried → Term
carried_term c = Variable (carried_name c) IMPLICIT

-- what is carried of the variable, frame or feature at an index, as a target
abbrev pub item_target : Item → ℕ → Target
item_target k i = record { name = item_name k; expansion = IMPLICIT - i }

-- and in an expression
abbrev pub item_term : Item → ℕ → Term
item_term k i = Variable (item_name k) (IMPLICIT - i)

-- the whole numbers that come first, in the order of the table of variables
abbrev pub first_carried : List Carried
first_carried =
    carried.Frame ∷ carried.Latest ∷ carried.Mode ∷ carried.Table ∷ carried.Scanning ∷ carried.Unit ∷ carried.Place ∷ carried.Approach
    ∷ carried.Search ∷ carried.Retract ∷ []

-- and those behind the truth value
abbrev pub last_carried : List Carried
last_carried =
    carried.Epoch ∷ carried.OwnPoints ∷ carried.Clearance ∷ carried.Compensation ∷ carried.Qualification ∷ carried.Home ∷ carried.Floor
    ∷ carried.Saving ∷ carried.Values ∷ carried.Features ∷ carried.Points ∷ carried.Wanted ∷ carried.Single ∷ carried.Sensor ∷ carried.Touched ∷ carried.Angle
    ∷ carried.Plane ∷ []

-- those that are 1 at the start
abbrev pub known_first : List Carried
known_first =
    carried.Epoch ∷ carried.Frame ∷ carried.Latest ∷ carried.Mode ∷ carried.Table ∷ carried.Scanning ∷ carried.Unit ∷ carried.OwnPoints
    ∷ carried.Clearance ∷ carried.Compensation ∷ carried.Qualification ∷ carried.Home ∷ carried.Saving ∷ carried.Values ∷ []

-- ---- lengths

-- the names of lengths that are carried
abbrev pub length_name : Length → List ℕ
length_name lengths.HomeX = codes "HOMEX"
length_name lengths.HomeY = codes "HOMEY"
length_name lengths.HomeZ = codes "HOMEZ"
length_name lengths.TargetX = codes "TARGETX"
length_name lengths.TargetY = codes "TARGETY"
length_name lengths.TargetZ = codes "TARGETZ"
length_name lengths.ProbeX = codes "PROBEX"
length_name lengths.ProbeY = codes "PROBEY"
length_name lengths.ProbeZ = codes "PROBEZ"
length_name lengths.Approach = codes "APPROACHLENGTH"
length_name lengths.Retract = codes "RETRACTLENGTH"
length_name lengths.Tip = codes "TIPLENGTH"
length_name lengths.Along = codes "ALONG"
length_name lengths.OriginX = codes "ORIGINX"
length_name lengths.OriginY = codes "ORIGINY"
length_name lengths.OriginZ = codes "ORIGINZ"

-- a length as the target of an assignment
abbrev pub length_target : Length → Target
length_target l = record { name = length_name l; expansion = IMPLICIT }

-- and in an expression
abbrev pub length_term : Length → Term
length_term l = Variable (length_name l) IMPLICIT

-- ---- places that are kept

-- the number of the frame in which a place is kept, 0 where it isn't known
abbrev pub frame_of : Kept → Carried
frame_of kept.Home = carried.HomeFrame
frame_of kept.Target = carried.TargetFrame
frame_of kept.Probe = carried.ProbeFrame

-- its coordinates
abbrev pub x_of : Kept → Length
x_of kept.Home = lengths.HomeX
x_of kept.Target = lengths.TargetX
x_of kept.Probe = lengths.ProbeX

abbrev pub y_of : Kept → Length
y_of kept.Home = lengths.HomeY
y_of kept.Target = lengths.TargetY
y_of kept.Probe = lengths.ProbeY

abbrev pub z_of : Kept → Length
z_of kept.Home = lengths.HomeZ
z_of kept.Target = lengths.TargetZ
z_of kept.Probe = lengths.ProbeZ

-- a place that is kept
abbrev pub kept_place : Kept → Coordinates
kept_place k = record { x = Plain (length_term (x_of k)); y = Plain (length_term (y_of k)); z = Plain (length_term (z_of k)) }
