-- Worked examples: what statements say, row by row of the table, computed.
use Rattle.std.specs.Prelude.{◌≡◌, refl, ℕ, pos, negsuc, Some, List, [], ◌∷◌, ◌++◌, codes, true, false}
use Rattle.vcm_num.specs.declared.axis.Axis.TheVariants.{PlusZ}
use Rattle.vcm_num.specs.declared.number.Literal.TheVariants.{Int, Thousandths}
use Rattle.vcm_spec.specs.declared.words.FrameAxis.TheVariants as axes
use Rattle.vcm_spec.specs.declared.words.Setting.TheVariants.{Approach, Retract}
use Rattle.vcm_spec.specs.declared.words.Source.TheVariants.{Actual}
use Rattle.vcm_lines.specs.Lexemes.{Lexeme, Run, Number as Digits, Slash, Comma, Equals, Open, Close, Minus, Quoted, Other}
use Rattle.vcm_events.specs.Datums.{happens_to}
use Rattle.vcm_expr.specs.declared.expression.Term.TheVariants.{Number}
use Rattle.vcm_expr.specs.Source.{Source, Plain}
use Rattle.vcm_expr.specs.Parsing.{read_symbols}
use Rattle.vcm_expr.specs.Digits.{read_of}
use Rattle.vcm_syntax.specs.Statements.{statement_of}
use Rattle.vcm_forms.specs.Statements.{as_read}
use Rattle.vcm_forms.specs.declared.statement.Form.{Form}
use Rattle.vcm_forms.specs.declared.statement.Form.TheVariants.{Assignment, Case, Test, Repeat, Choose, Feature, Measure, MeasureEnd, Configure, Shift, Restore, Move, Touch, Home, Report}
use Rattle.vcm_events.specs.declared.event.Event.TheVariants as events
use Rattle.vcm_events.specs.Events.{valued, event_form, lost, gained}
use Rattle.vcm_events.specs.Joined.{length_of}
use Rattle.vcm_events.specs.Unknown.{unknown, unknown_place, unknown_rounds}
use Rattle.vcm_events.specs.declared.spots.Spot.TheVariants as spots
use Rattle.vcm_events.specs.Spots.{spotted, slanted}
use Rattle.vcm_said.specs.Polar.{along, across}
use Rattle.vcm_said.specs.Cases.{values_onto}
use Rattle.vcm_said.specs.Settings.{pairs_said}
use Rattle.vcm_said.specs.Said.{said}

-- what words say on line 9
abbrev pub says : List Lexeme → List Form
says ws = said false 9 ws

-- what they say in a text with points that have no direction of their own
abbrev pub says_planes : List Lexeme → List Form
says_planes ws = said true 9 ws

-- letters and digits
abbrev pub word : List ℕ → Lexeme
word bs = Run bs

-- a word, a slash and a word
abbrev pub pair : List ℕ → List ℕ → List Lexeme
pair major minor = word major ∷ Slash ∷ word minor ∷ []

-- a name behind letters, as D(A)
abbrev pub titled : List ℕ → List Lexeme → List Lexeme
titled letters ws = word letters ∷ Open ∷ word (codes "A") ∷ Close ∷ ws

-- a length of so many micrometres
abbrev pub micrometres : ℕ → Source
micrometres n = Plain (Number (Thousandths (pos n)))

-- a whole number
abbrev pub whole : ℕ → Source
whole n = Plain (Number (Int (pos n)))

-- ---- CASE and DATDEF

-- a CASE of the language, and where its block begins
pub case : says (pair (codes "CASE") (codes "2")) ≡ Case (pos 2) ∷ gained events.CaseBegins ∷ []
unfolding statement_of read_of
case = refl

-- one with several values
pub cases : says (word (codes "CASE") ∷ Slash ∷ word (codes "1") ∷ Comma ∷ Minus ∷ word (codes "2") ∷ []) ≡ Case (pos 1) ∷ event_form events.CaseValue (negsuc 1) ∷ gained events.CaseBegins ∷ []
unfolding statement_of read_symbols read_of values_onto
cases = refl

-- a datum is defined
pub datum : says (word (codes "DATDEF") ∷ Slash ∷ titled (codes "FA") (Comma ∷ titled (codes "DAT") [])) ≡ gained events.Bind ∷ []
datum = refl

-- ---- what moves nothing and chooses nothing says nothing

pub tolerance : says (titled (codes "T") (Equals ∷ pair (codes "TOL") (codes "POS"))) ≡ []
tolerance = refl

pub sensor_definition : says (titled (codes "S") (Equals ∷ pair (codes "SNSDEF") (codes "PROBE"))) ≡ []
sensor_definition = refl

pub feed : says (pair (codes "FEDRAT") (codes "POSVEL")) ≡ []
feed = refl

-- ---- modes, units, scanning, tables

pub programmed : says (pair (codes "MODE") (codes "PROG")) ≡ gained events.Mode ∷ gained events.OwnPoints ∷ []
programmed = refl

pub automatic : says (pair (codes "MODE") (codes "AUTO")) ≡ gained events.Mode ∷ lost events.OwnPoints ∷ []
automatic = refl

pub by_hand : says (pair (codes "MODE") (codes "MAN")) ≡ lost events.Mode ∷ []
by_hand = refl

pub millimetres : says (word (codes "UNITS") ∷ Slash ∷ word (codes "MM") ∷ Comma ∷ word (codes "ANGDEC") ∷ []) ≡ gained events.Unit ∷ gained events.Angle ∷ []
unfolding statement_of read_symbols read_of
millimetres = refl

pub inches : says (word (codes "UNITS") ∷ Slash ∷ word (codes "INCH") ∷ Comma ∷ word (codes "ANGDEC") ∷ []) ≡ lost events.Unit ∷ gained events.Angle ∷ []
unfolding statement_of read_symbols read_of
inches = refl

pub radians : says (word (codes "UNITS") ∷ Slash ∷ word (codes "MM") ∷ Comma ∷ word (codes "ANGRAD") ∷ []) ≡ gained events.Unit ∷ lost events.Angle ∷ []
unfolding statement_of read_symbols read_of
radians = refl

pub level_plane : says (pair (codes "WKPLAN") (codes "XYPLAN")) ≡ gained events.Plane ∷ []
unfolding statement_of read_symbols read_of
level_plane = refl

pub upright_plane : says (pair (codes "WKPLAN") (codes "ZXPLAN")) ≡ lost events.Plane ∷ []
unfolding statement_of read_symbols read_of
upright_plane = refl

pub scanning : says (pair (codes "SCNMOD") (codes "ON")) ≡ lost events.Scanning ∷ []
scanning = refl

pub no_scanning : says (pair (codes "SCNMOD") (codes "OFF")) ≡ gained events.Scanning ∷ []
no_scanning = refl

pub table : says (word (codes "ROTAB") ∷ Slash ∷ word (codes "RT") ∷ Open ∷ word (codes "A") ∷ Close ∷ []) ≡ lost events.Table ∷ []
table = refl

pub compensated : says (pair (codes "PRCOMP") (codes "ON")) ≡ gained events.Compensation ∷ []
compensated = refl

pub not_compensated : says (pair (codes "PRCOMP") (codes "OFF")) ≡ lost events.Compensation ∷ []
not_compensated = refl

-- ---- motions and points

pub motion :
    says (word (codes "GOTO") ∷ Slash ∷ word (codes "1") ∷ Comma ∷ word (codes "2") ∷ Comma ∷ Digits (codes "3.5") ∷ [])
    ≡ Move (record { x = whole 1; y = whole 2; z = micrometres 3500 }) ∷ []
unfolding statement_of read_symbols read_of
motion = refl

-- three words behind a comma each
abbrev pub fields : (a b c : List ℕ) → List Lexeme
fields a b c = Comma ∷ word a ∷ Comma ∷ word b ∷ Comma ∷ word c ∷ []

-- a polar place of these fields, behind a major word
abbrev pub polar_words : (major : List ℕ) → List Lexeme → List Lexeme
polar_words major ws = word major ∷ Slash ∷ word (codes "POL") ∷ ws

-- 100 mm at 30 degrees: 86.603 along X, 50 along Y
pub polar : says (polar_words (codes "GOTO") (fields (codes "100") (codes "30") (codes "3")))
    ≡ gained events.Polar ∷ Move (record { x = micrometres 86603; y = micrometres 50000; z = whole 3 }) ∷ gained events.PolarMotion ∷ []
unfolding statement_of read_symbols read_of along across
polar = refl

-- 100 mm at -60.5 degrees: 49.242 along X, 87.036 against Y
pub polar_below : says (polar_words (codes "GOTO") (Comma ∷ word (codes "100") ∷ Comma ∷ Minus ∷ Digits (codes "60.5") ∷ Comma ∷ word (codes "3") ∷ []))
    ≡ gained events.Polar ∷ Move (record { x = micrometres 49242; y = length_of (negsuc 87035); z = whole 3 }) ∷ gained events.PolarMotion ∷ []
unfolding statement_of read_symbols read_of along across
polar_below = refl

pub polar_by_variable : says (polar_words (codes "GOTO") (fields (codes "V") (codes "30") (codes "3"))) ≡ gained events.Untried ∷ []
unfolding statement_of read_symbols read_of along across
polar_by_variable = refl

pub polar_point : says (polar_words (codes "PTMEAS") (fields (codes "100") (codes "90") (codes "3") ++ fields (codes "0") (codes "0") (codes "1")))
    ≡ gained events.Polar ∷ Touch (record { x = micrometres 0; y = micrometres 100000; z = whole 3 }) (Some PlusZ) ∷ gained events.PolarPoint ∷ []
unfolding statement_of read_symbols read_of along across
polar_point = refl

pub polar_slanted : says (polar_words (codes "PTMEAS") (fields (codes "100") (codes "180") (codes "3") ++ Comma ∷ Digits (codes "0.6") ∷ Comma ∷ word (codes "0") ∷ Comma ∷ Digits (codes "0.8") ∷ []))
    ≡ gained events.UntriedPoint ∷ []
unfolding statement_of read_symbols read_of along across
polar_slanted = refl

pub home : says (word (codes "GOHOME") ∷ []) ≡ Home ∷ []
unfolding statement_of read_symbols read_of
home = refl

pub end_of_target : says (word (codes "ENDGO") ∷ []) ≡ gained events.Target ∷ []
end_of_target = refl

pub aim : says (word (codes "GOTARG") ∷ Slash ∷ word (codes "CART") ∷ fields (codes "1") (codes "2") (codes "3"))
    ≡ spotted spots.Target (record { x = whole 1; y = whole 2; z = whole 3 }) ∷ []
unfolding statement_of read_symbols read_of
aim = refl

pub step : says (word (codes "GOTO") ∷ Slash ∷ word (codes "INCR") ∷ Comma ∷ word (codes "5") ∷ fields (codes "0") (codes "0") (codes "1"))
    ≡ spotted spots.Step (record { x = whole 0; y = whole 0; z = whole 5 }) ∷ []
unfolding statement_of read_symbols read_of
step = refl

pub step_back : says (word (codes "GOTO") ∷ Slash ∷ word (codes "INCR") ∷ Comma ∷ word (codes "5") ∷ Comma ∷ Minus ∷ word (codes "1") ∷ Comma ∷ word (codes "0") ∷ Comma ∷ word (codes "0") ∷ [])
    ≡ spotted spots.Back (record { x = whole 5; y = whole 0; z = whole 0 }) ∷ []
unfolding statement_of read_symbols read_of
step_back = refl

pub slanted_step : says (word (codes "GOTO") ∷ Slash ∷ word (codes "INCR") ∷ Comma ∷ word (codes "5") ∷ fields (codes "1") (codes "0") (codes "1")) ≡ gained events.Untried ∷ []
unfolding statement_of read_symbols read_of
slanted_step = refl

pub slanted_point : says (word (codes "PTMEAS") ∷ Slash ∷ word (codes "CART") ∷ (fields (codes "1") (codes "2") (codes "3") ++ Comma ∷ Digits (codes "0.6") ∷ Comma ∷ word (codes "0") ∷ Comma ∷ Digits (codes "0.8") ∷ []))
    ≡ slanted (record { x = whole 1; y = whole 2; z = whole 3 }) (pos 600) (pos 0) (pos 800) ∷ []
unfolding statement_of read_symbols read_of
slanted_point = refl

pub turning_table : says (word (codes "GOTO") ∷ Slash ∷ word (codes "CART") ∷ (fields (codes "1") (codes "2") (codes "3") ++ Comma ∷ word (codes "ROTAB") ∷ []))
    ≡ gained events.Untried ∷ lost events.Table ∷ []
unfolding statement_of read_symbols read_of
turning_table = refl

pub path : says (titled (codes "P") (Equals ∷ pair (codes "PAMEAS") (codes "DISTANCE"))) ≡ gained events.UntriedPoint ∷ []
path = refl

pub start : says (word (codes "FROM") ∷ Slash ∷ word (codes "CART") ∷ Comma ∷ word (codes "0") ∷ Comma ∷ word (codes "0") ∷ Comma ∷ word (codes "9") ∷ [])
    ≡ spotted spots.Home (record { x = whole 0; y = whole 0; z = whole 9 }) ∷ []
unfolding statement_of read_symbols read_of
start = refl

pub unknown_start : says (word (codes "FROM") ∷ Slash ∷ word (codes "POL") ∷ []) ≡ spotted spots.Home unknown_place ∷ []
unfolding statement_of read_symbols read_of
unknown_start = refl

-- ---- features

pub circle : says (titled (codes "F") (Equals ∷ pair (codes "FEAT") (codes "CIRCLE"))) ≡ Feature (codes "A") unknown_place PlusZ ∷ []
unfolding statement_of read_symbols read_of
circle = refl

pub circle_measured :
    says (word (codes "MEAS") ∷ Slash ∷ word (codes "CIRCLE") ∷ Comma ∷ titled (codes "F") (Comma ∷ word (codes "4") ∷ []))
    ≡ Measure (codes "A") ∷ valued events.Points (whole 4) ∷ []
unfolding statement_of read_symbols read_of
circle_measured = refl

pub end_of_measurement : says (word (codes "ENDMES") ∷ []) ≡ MeasureEnd ∷ []
end_of_measurement = refl

pub qualification : says (word (codes "CALIB") ∷ Slash ∷ word (codes "SENS") ∷ Comma ∷ titled (codes "S") [])
    ≡ gained events.Untried ∷ lost events.Qualification ∷ lost events.Features ∷ []
qualification = refl

pub table_qualified : says (word (codes "CALIB") ∷ Slash ∷ word (codes "RTAB") ∷ Comma ∷ titled (codes "RT") [])
    ≡ gained events.Untried ∷ lost events.Qualification ∷ lost events.Features ∷ lost events.Table ∷ []
table_qualified = refl

pub constructed : says (titled (codes "F") (Equals ∷ pair (codes "CONST") (codes "CIRCLE"))) ≡ happens_to events.Remake (codes "A") ∷ []
constructed = refl

pub constructed_otherwise : says (pair (codes "CONST") (codes "CIRCLE")) ≡ lost events.Features ∷ []
constructed_otherwise = refl

-- ---- settings and sensors

pub approach : says (word (codes "SNSET") ∷ Slash ∷ word (codes "APPRCH") ∷ Comma ∷ word (codes "2") ∷ []) ≡ Configure Approach (whole 2) ∷ []
unfolding statement_of read_symbols read_of
approach = refl

pub depth : says (word (codes "SNSET") ∷ Slash ∷ word (codes "DEPTH") ∷ Comma ∷ word (codes "2") ∷ []) ≡ gained events.Depth ∷ []
unfolding statement_of read_symbols read_of
depth = refl

pub clearance : says (word (codes "SNSET") ∷ Slash ∷ word (codes "CLRSRF") ∷ Comma ∷ titled (codes "DAT") []) ≡ lost events.Clearance ∷ []
unfolding statement_of read_symbols read_of pairs_said
clearance = refl

pub no_clearance : says (word (codes "SNSET") ∷ Slash ∷ word (codes "CLRSRF") ∷ Comma ∷ word (codes "OFF") ∷ []) ≡ gained events.Clearance ∷ []
unfolding statement_of read_symbols read_of pairs_said
no_clearance = refl

-- several settings, and words for points of the machine's own
pub settings : says (word (codes "SNSET") ∷ Slash ∷ word (codes "APPRCH") ∷ Comma ∷ word (codes "2") ∷ Comma ∷ word (codes "FOCUSN") ∷ Comma ∷ word (codes "RETRCT") ∷ Comma ∷ word (codes "3") ∷ [])
    ≡ Configure Approach (whole 2) ∷ gained events.Depth ∷ Configure Retract (whole 3) ∷ []
unfolding statement_of read_symbols read_of pairs_said
settings = refl

pub other_setting : says (word (codes "SNSET") ∷ Slash ∷ word (codes "SPIN") ∷ [])
    ≡ lost events.Approach ∷ lost events.Search ∷ lost events.Retract ∷ lost events.Clearance ∷ []
unfolding statement_of read_symbols read_of pairs_said
other_setting = refl

pub selected : says (word (codes "SNSLCT") ∷ Slash ∷ titled (codes "S") []) ≡ event_form events.Sensor (pos 9) ∷ []
selected = refl

pub selected_otherwise : says (word (codes "SNSLCT") ∷ Slash ∷ titled (codes "S") (Comma ∷ titled (codes "W") [])) ≡ lost events.Sensor ∷ []
selected_otherwise = refl

pub turning_head : says (word (codes "GOTO") ∷ Slash ∷ word (codes "CART") ∷ (fields (codes "1") (codes "2") (codes "3") ++ Comma ∷ word (codes "HEADCS") ∷ []))
    ≡ gained events.Untried ∷ lost events.Sensor ∷ []
unfolding statement_of read_symbols read_of
turning_head = refl

pub toleranced : says (word (codes "OUTPUT") ∷ Slash ∷ titled (codes "FA") (Comma ∷ titled (codes "TA") [])) ≡ Report Actual (codes "A") ∷ []
unfolding statement_of read_symbols read_of
toleranced = refl

-- ---- frames

pub machine : says (titled (codes "D") (Equals ∷ pair (codes "DATSET") (codes "MCS")))
    ≡ gained events.Machine ∷ Shift (codes "A") (record { axis = axes.X; length = whole 0 } ∷ []) ∷ []
unfolding statement_of read_symbols read_of
machine = refl

-- a plane along an axis has its place and direction in a text with points that have none of their own
abbrev pub plane_words : List Lexeme
plane_words =
    titled (codes "F") (Equals ∷ word (codes "FEAT") ∷ Slash ∷ word (codes "PLANE") ∷ Comma ∷ word (codes "CART") ∷ (fields (codes "1") (codes "2") (codes "3")
    ++ fields (codes "0") (codes "0") (codes "1")))

pub plane : says_planes plane_words ≡ Feature (codes "A") (record { x = whole 1; y = whole 2; z = whole 3 }) PlusZ ∷ []
unfolding statement_of read_symbols read_of
plane = refl

pub plane_elsewhere : says plane_words ≡ Feature (codes "A") unknown_place PlusZ ∷ []
unfolding statement_of read_symbols read_of
plane_elsewhere = refl

pub datums : says (titled (codes "D") (Equals ∷ word (codes "DATSET") ∷ Slash ∷ titled (codes "DAT") (Comma ∷ word (codes "ZDIR") ∷ [])))
    ≡ Shift (codes "A") [] ∷ []
unfolding statement_of read_symbols read_of
datums = refl

pub recalled : says (word (codes "RECALL") ∷ Slash ∷ titled (codes "D") []) ≡ Restore (codes "A") ∷ []
unfolding statement_of read_symbols read_of
recalled = refl

pub datum_recalled : says (word (codes "RECALL") ∷ Slash ∷ titled (codes "DA") []) ≡ Restore (codes "A") ∷ []
unfolding statement_of read_symbols read_of
datum_recalled = refl

pub feature_recalled : says (word (codes "RECALL") ∷ Slash ∷ titled (codes "FA") []) ≡ happens_to events.Remake (codes "A") ∷ []
unfolding statement_of read_symbols read_of
feature_recalled = refl

pub features_recalled : says (word (codes "RECALL") ∷ Slash ∷ titled (codes "F") []) ≡ happens_to events.DropFeature (codes "A") ∷ []
unfolding statement_of read_symbols read_of
features_recalled = refl

pub sensor_recalled : says (word (codes "RECALL") ∷ Slash ∷ titled (codes "S") []) ≡ []
unfolding statement_of read_symbols read_of
sensor_recalled = refl

pub stored : says (word (codes "SAVE") ∷ Slash ∷ titled (codes "D") []) ≡ happens_to events.StoreFrame (codes "A") ∷ []
stored = refl

pub stored_elsewhere : says (word (codes "SAVE") ∷ Slash ∷ titled (codes "DA") (Comma ∷ titled (codes "DID") [])) ≡ happens_to events.StoreFrame (codes "A") ∷ []
stored_elsewhere = refl

pub stored_feature : says (word (codes "SAVE") ∷ Slash ∷ titled (codes "FA") []) ≡ []
stored_feature = refl

pub frame_deleted : says (word (codes "DELETE") ∷ Slash ∷ titled (codes "DA") []) ≡ happens_to events.DropFrame (codes "A") ∷ []
frame_deleted = refl

pub feature_deleted : says (word (codes "DELETE") ∷ Slash ∷ titled (codes "FA") []) ≡ happens_to events.DropFeature (codes "A") ∷ []
feature_deleted = refl

pub sensor_deleted : says (word (codes "DELETE") ∷ Slash ∷ titled (codes "S") []) ≡ []
sensor_deleted = refl

pub all_deleted : says (pair (codes "DELETE") (codes "ALLDAT")) ≡ lost events.Frames ∷ lost events.Features ∷ []
all_deleted = refl

-- ---- values and choices that aren't known

pub function :
    says (word (codes "V") ∷ Equals ∷ word (codes "ASSIGN") ∷ Slash ∷ word (codes "SQRT") ∷ Open ∷ word (codes "2") ∷ Close ∷ [])
    ≡ Assignment (as_read (codes "V")) unknown ∷ []
unfolding statement_of read_symbols read_of
function = refl

pub question :
    says (word (codes "TEXT") ∷ Slash ∷ word (codes "QUERY") ∷ Comma ∷ Open ∷ word (codes "V") ∷ Close ∷ Comma ∷ word (codes "1") ∷ [])
    ≡ Assignment (as_read (codes "V")) unknown ∷ []
unfolding statement_of read_symbols read_of
question = refl

pub done_by_hand : says (word (codes "TEXT") ∷ Slash ∷ word (codes "MAN") ∷ Comma ∷ Quoted (codes "TURN THE PART") ∷ []) ≡ lost events.Place ∷ []
unfolding statement_of read_symbols read_of
done_by_hand = refl

-- the variables that a statement names have values that aren't known, whatever words stand beside them
pub values_read :
    says (word (codes "READ") ∷ Slash ∷ titled (codes "DID") (Comma ∷ word (codes "V") ∷ []))
    ≡ Assignment (as_read (codes "READ")) unknown ∷ Assignment (as_read (codes "DID")) unknown ∷ Assignment (as_read (codes "A")) unknown
    ∷ Assignment (as_read (codes "V")) unknown ∷ []
values_read = refl

-- and the features that it names have other values
pub feature_taken :
    says (titled (codes "F") (Equals ∷ word (codes "XTRACT") ∷ []))
    ≡ Assignment (as_read (codes "F")) unknown ∷ Assignment (as_read (codes "A")) unknown ∷ Assignment (as_read (codes "XTRACT")) unknown
    ∷ happens_to events.DropFeature (codes "A") ∷ []
feature_taken = refl

-- a name that is a value may be any
pub any_value : says (word (codes "READ") ∷ Slash ∷ Other ∷ word (codes "V") ∷ []) ≡ lost events.Values ∷ lost events.Features ∷ []
any_value = refl

pub unknown_test : says (word (codes "IF") ∷ Slash ∷ Open ∷ word (codes "SIN") ∷ Open ∷ word (codes "V") ∷ Close ∷ Close ∷ []) ≡ Test unknown ∷ []
unfolding statement_of read_symbols read_of
unknown_test = refl

pub unknown_loop : says (word (codes "DO") ∷ Slash ∷ word (codes "V") ∷ []) ≡ Repeat unknown_rounds ∷ []
unfolding statement_of read_symbols read_of
unknown_loop = refl

pub unknown_choice : says (word (codes "SELECT") ∷ Slash ∷ Quoted (codes "A") ∷ []) ≡ Choose unknown ∷ []
unfolding statement_of read_symbols read_of
unknown_choice = refl

-- ---- what may do anything

pub other_program : says (word (codes "CALL") ∷ Slash ∷ word (codes "EXTERN") ∷ Comma ∷ word (codes "DMIS") ∷ []) ≡ lost events.All ∷ []
unfolding statement_of read_symbols read_of
other_program = refl

-- another process reaches nothing of the machine
pub process : says (word (codes "CALL") ∷ Slash ∷ word (codes "EXTERN") ∷ Comma ∷ word (codes "SYS") ∷ Comma ∷ Quoted (codes "DIR") ∷ []) ≡ []
unfolding statement_of read_symbols read_of
process = refl

pub commanded : says (word (codes "DMESW") ∷ Slash ∷ word (codes "COMAND") ∷ Comma ∷ Quoted (codes "HOME") ∷ []) ≡ lost events.All ∷ []
commanded = refl

pub aborted : says (pair (codes "DMESW") (codes "ABORT")) ≡ gained events.Ends ∷ []
aborted = refl

pub paused : says (pair (codes "DMESW") (codes "PAUSE")) ≡ []
paused = refl

pub at_once : says (pair (codes "CRMODE") (codes "SIMUL")) ≡ lost events.All ∷ []
at_once = refl

pub in_turn : says (pair (codes "CRMODE") (codes "SEQNTL")) ≡ []
in_turn = refl

pub fitted : says (titled (codes "D") (Equals ∷ word (codes "ITERAT") ∷ Slash ∷ Open ∷ word (codes "L") ∷ Close ∷ []))
    ≡ gained events.Untried ∷ lost events.Values ∷ lost events.Features ∷ lost events.Frames ∷ Shift (codes "A") [] ∷ []
fitted = refl

pub included : says (word (codes "INCLUD") ∷ Slash ∷ word (codes "DMIS") ∷ []) ≡ lost events.All ∷ []
included = refl

pub no_word : says (pair (codes "SPIN") (codes "FAST")) ≡ lost events.All ∷ []
no_word = refl
