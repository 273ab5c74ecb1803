-- What each statement of a producer's text says.
use Rattle.std.specs.Prelude.{ℕ, pos, codes, Bool, true, false, is_some, if◌then◌else◌, List, [], ◌∷◌, Option, Some, None, Result, Ok, Err, ◌++◌, ◌||◌, ◌&&◌}
use Rattle.std.specs.List.{list_any}
use Rattle.std.specs.Str.{bytes_eq}
use Rattle.vcm_num.specs.declared.axis.Axis.{Axis}
use Rattle.vcm_num.specs.declared.axis.Axis.TheVariants.{PlusZ}
use Rattle.vcm_num.specs.declared.number.Kind.TheVariants as kinds
use Rattle.vcm_num.specs.declared.number.Literal.TheVariants.{Int}
use Rattle.vcm_spec.specs.declared.words.FrameAxis.TheVariants as axes
use Rattle.vcm_spec.specs.declared.words.Setting.TheVariants.{Depth}
use Rattle.vcm_spec.specs.declared.words.Source.{Source as Side}
use Rattle.vcm_spec.specs.declared.words.Source.TheVariants.{Nominal, Actual}
use Rattle.vcm_items.specs.NameBytes.{is_name, is_variable_name}
use Rattle.vcm_lines.specs.declared.fault.FaultCode.{FaultCode}
use Rattle.vcm_lines.specs.Lexemes.{Lexeme}
use Rattle.vcm_expr.specs.declared.expression.Term.TheVariants.{Number, Variable as Named}
use Rattle.vcm_expr.specs.declared.expression.Piece.{Piece}
use Rattle.vcm_expr.specs.declared.expression.Piece.TheVariants.{Variable as NamedPiece}
use Rattle.vcm_expr.specs.Source.{Source, Plain, parts}
use Rattle.vcm_expr.specs.Parsing.{expr_of}
use Rattle.vcm_syntax.specs.Statements.{statement_of}
use Rattle.vcm_forms.specs.Statements.{as_read}
use Rattle.vcm_forms.specs.declared.statement.Argument.{Argument}
use Rattle.vcm_forms.specs.declared.statement.Coordinates.{Coordinates}
use Rattle.vcm_forms.specs.declared.statement.Rounds.{Rounds}
use Rattle.vcm_forms.specs.declared.statement.Form.{Form}
use Rattle.vcm_forms.specs.declared.statement.Form.TheVariants.{Declaration, Assignment, Test, Repeat, Choose, Call, Feature, Measure, MeasureEnd, Configure, Shift, Restore, Report}
use Rattle.vcm_events.specs.declared.event.Event.{Event}
use Rattle.vcm_events.specs.declared.event.Event.TheVariants as events
use Rattle.vcm_heads.specs.declared.heads.Mark.TheVariants as marks
use Rattle.vcm_heads.specs.declared.rows.Row.{Row}
use Rattle.vcm_heads.specs.declared.rows.Row.TheVariants as row
use Rattle.vcm_heads.specs.Steps.{◌>>=◌}
use Rattle.vcm_events.specs.Events.{valued, event_form, lost, gained}
use Rattle.vcm_events.specs.Unknown.{unknown, unknown_place, unknown_rounds}
use Rattle.vcm_heads.specs.Heads.{past, run_at, past_word, label_at, title_at, assigned_at, word_in, major_of, behind_of, first_field, is_label}
use Rattle.vcm_heads.specs.Rows.{row_in}
use Rattle.vcm_events.specs.declared.spots.Spot.TheVariants as spots
use Rattle.vcm_events.specs.Spots.{spotted}
use Rattle.vcm_said.specs.Polar.{polar_motion, polar_touch}
use Rattle.vcm_compared.specs.Texts.{char_at}
use Rattle.vcm_said.specs.Cases.{values_of, case_said}
use Rattle.vcm_said.specs.Places.{place_given, step_at, slant_at, plane_if, names_table, names_head}
use Rattle.vcm_said.specs.Named.{deleted, stored, recalled, remade, values_said}
use Rattle.vcm_said.specs.Settings.{settings_by}

-- ---- what isn't known

-- an expression that was read, or else one whose value isn't known
abbrev pub known_or : Result Source FaultCode → Source
known_or (Ok e) = e
known_or (Err c) = unknown

-- ---- what is said

-- one statement
abbrev pub one : Form → List Form
one f = f ∷ []

-- the statement of the language that words spell, if they spell one
abbrev pub spelled_in : Result Form FaultCode → Option Form
spelled_in (Ok f) = Some f
spelled_in (Err c) = None

-- a statement that was found, nothing where there is none
abbrev pub stated : Option Form → List Form
stated None = []
stated (Some f) = f ∷ []

-- a statement that was found, or else these
abbrev pub or_said : Option Form → List Form → List Form
or_said None fs = fs
or_said (Some f) fs = f ∷ []

-- something is lost, or known again
abbrev pub turns : Event → Bool → Form
turns e true = gained e
turns e false = lost e

-- ---- where the words are none of the language

-- the variable of an assignment isn't known, if it is one of the language
abbrev pub value_lost : Option (List ℕ × List Lexeme) → List Form
value_lost None = []
value_lost (Some v) = if is_variable_name v.0 then one (Assignment (as_read v.0) unknown) else []

-- the word behind the first field
abbrev pub second_field_at : List Lexeme → Option (List ℕ × List Lexeme)
second_field_at behind = do
  fields ← past marks.Slash behind
  first ← run_at fields
  rest ← past marks.Comma first.1
  run_at rest

-- an answer of the operator isn't known
abbrev pub answer_lost : Option (List ℕ × List Lexeme) → List Form
answer_lost None = one (lost events.Values)
answer_lost (Some v) = if is_variable_name v.0 then one (Assignment (as_read v.0) unknown) else one (lost events.Values)

-- the variable of a question: the label behind QUERY
abbrev pub asked_at : List Lexeme → Option (List ℕ × List Lexeme)
asked_at ws = do
  fields ← past marks.Slash ws
  r ← past_word (codes "QUERY") fields
  v ← past marks.Comma r
  label_at v

-- TEXT that isn't shown: a question, something that the operator does, or nothing
abbrev pub text_lost : List ℕ → List Lexeme → List Form
text_lost word ws =
    if bytes_eq word (codes "QUERY") then answer_lost (asked_at ws)
    else if bytes_eq word (codes "MAN") then one (lost events.Place)
    else []

-- whether a CALL is one of another process, which reaches neither names, nor frames, nor modes: CALL/EXTERN,SYS
abbrev pub is_outside : List Lexeme → Bool
is_outside behind = bytes_eq (first_field behind) (codes "EXTERN") && bytes_eq (word_in (second_field_at behind)) (codes "SYS")

-- a CALL; of one that isn't of the language it isn't known what it does, but that of another process
abbrev pub call_said : Bool → Option Form → List Form
call_said outside None = if outside then [] else one (lost events.All)
call_said outside (Some f) = one f

-- a feature of another kind than points: a plane along an axis has its place and direction, of others nothing is known
abbrev pub featured : List ℕ → Option (Coordinates × Axis) → Form
featured l None = Feature l unknown_place PlusZ
featured l (Some p) = Feature l p.0 p.1

-- the same under its name
abbrev pub feature_lost : Option (Coordinates × Axis) → Option (List ℕ × List Lexeme) → List Form
feature_lost p None = one (lost events.Features)
feature_lost p (Some l) = if is_name l.0 then one (featured l.0 p) else one (lost events.Features)

-- the feature of a measurement, and the words behind it: MEAS/kind,F(l)
abbrev pub measured_at : List Lexeme → Option (List ℕ × List Lexeme)
measured_at ws = do
  fields ← past marks.Slash ws
  kind ← run_at fields
  r ← past marks.Comma kind.1
  title_at (codes "F") r

-- how many points are wanted: the expression behind the feature, which may not be known
abbrev pub wanted_in : Option (List Lexeme) → Source
wanted_in None = unknown
wanted_in (Some ws) = known_or (expr_of ws)

-- a measurement of another kind than a point
abbrev pub measure_lost : Option (List ℕ × List Lexeme) → List Form
measure_lost None = one (lost events.Qualification)
measure_lost (Some l) =
    if is_name l.0 then Measure l.0 ∷ valued events.Points (wanted_in (past marks.Comma l.1)) ∷ []
    else one (lost events.Qualification)

-- a measurement whose points aren't tried; that of a table turns it
abbrev pub qualified : List ℕ → List Form
qualified word =
    gained events.Untried ∷ lost events.Qualification ∷ lost events.Features
    ∷ (if bytes_eq word (codes "RTAB") then one (lost events.Table) else [])

-- a setting of the probe; DEPTH is about points of the machine's own
abbrev pub setting_said : Form → List Form
setting_said (Configure Depth e) = one (gained events.Depth)
setting_said f = one f

-- SNSET: one setting of the language, or the pairs that it has
abbrev pub settings_said : Option Form → List Lexeme → List Form
settings_said (Some f) ws = setting_said f
settings_said None ws = settings_by (past marks.Slash ws)

-- the machine's frame, under a name
abbrev pub machine_frame : List ℕ → List Form
machine_frame l = gained events.Machine ∷ Shift l (record { axis = axes.X; length = Plain (Number (Int (pos 0))) } ∷ []) ∷ []

-- a frame that isn't known, under a name: a shift along no axis
abbrev pub frame_lost : List ℕ → List Form
frame_lost l = one (Shift l [])

-- a frame of another kind than shifts and quarter turns
abbrev pub frame_otherwise : List ℕ → Option (List ℕ × List Lexeme) → List Form
frame_otherwise word None = lost events.Frame ∷ lost events.Frames ∷ []
frame_otherwise word (Some l) =
    if is_name l.0 then (if bytes_eq word (codes "MCS") then machine_frame l.0 else frame_lost l.0)
    else lost events.Frame ∷ lost events.Frames ∷ []

-- a frame that is fitted in rounds, which go back to a statement above: they aren't tried, and what they measure, make and set isn't known
abbrev pub fitted : Option (List ℕ × List Lexeme) → List Form
fitted l = gained events.Untried ∷ lost events.Values ∷ lost events.Features ∷ lost events.Frames ∷ frame_otherwise [] l

-- the frame of RECALL/DA(l)
abbrev pub datum_at : List Lexeme → Option (List ℕ × List Lexeme)
datum_at ws = do
  fields ← past marks.Slash ws
  title_at (codes "DA") fields

-- what RECALL of another thing than a frame does
abbrev pub recall_lost : List ℕ → List Lexeme → List Form
recall_lost word behind =
    if bytes_eq word (codes "F") then recalled events.DropFeature (codes "F") (past marks.Slash behind)
    else if bytes_eq word (codes "FA") then recalled events.Remake (codes "FA") (past marks.Slash behind)
    else if bytes_eq word (codes "S") then []
    else if bytes_eq word (codes "SA") then []
    else if bytes_eq word (codes "D") then lost events.Frame ∷ lost events.Frames ∷ []
    else one (lost events.All)

-- RECALL/DA(l) with nothing behind it is RECALL/D(l)
abbrev pub recall_otherwise : Option (List ℕ × List Lexeme) → List Lexeme → List Form
recall_otherwise (Some (l, [])) behind = if is_name l then one (Restore l) else one (lost events.Frame)
recall_otherwise (Some l) behind = lost events.Frame ∷ lost events.Frames ∷ []
recall_otherwise None behind = recall_lost (first_field behind) behind

-- what the words of a motion that isn't tried may do besides: turn a table, or the head
abbrev pub turning : List Lexeme → List Form
turning ws = (if names_table ws then one (lost events.Table) else []) ++ (if names_head ws then one (lost events.Sensor) else [])

-- a motion or a point by a polar place, with the event that ends it: it is followed where the plane and the unit of angles are known
abbrev pub polar_said : Form → Event → List Form
polar_said f end = gained events.Polar ∷ f ∷ gained end ∷ []

-- the same, or else these
abbrev pub polar_or : Option Form → Event → List Form → List Form
polar_or None end fs = fs
polar_or (Some f) end fs = polar_said f end

-- a motion of another form: a step from the probe's place, or one that isn't tried
abbrev pub motion_otherwise : Option Form → List Lexeme → List Form
motion_otherwise (Some f) ws = one f
motion_otherwise None ws = gained events.Untried ∷ turning ws

-- a point of another form: a slanted one, or one that isn't tried
abbrev pub touch_otherwise : Option Form → List Lexeme → List Form
touch_otherwise (Some f) ws = one f
touch_otherwise None ws = gained events.UntriedPoint ∷ turning ws

-- whether nothing stands behind a label
abbrev pub is_lone_label : Option (List ℕ × List Lexeme) → Bool
is_lone_label (Some (l, [])) = true
is_lone_label l = false

-- whether SNSLCT has one sensor by its name alone, S(l) or SA(l)
abbrev pub is_plain_sensor : Option (List Lexeme) → Bool
is_plain_sensor None = false
is_plain_sensor (Some fields) = is_lone_label (title_at (codes "S") fields) || is_lone_label (title_at (codes "SA") fields)

-- SNSLCT: the sensor is known by the line of its statement, where that has one by its name alone
abbrev pub sensor_said : Bool → ℕ → List Form
sensor_said true line = one (event_form events.Sensor (pos line))
sensor_said false line = one (lost events.Sensor)

-- the output of a feature, if it is one
abbrev pub reported : Side → Option (List ℕ × List Lexeme) → List Form
reported side None = []
reported side (Some l) = if is_name l.0 then one (Report side l.0) else []

-- OUTPUT of a feature with other words behind it, of which it is reported
abbrev pub report_at : Option (List Lexeme) → List Form
report_at None = []
report_at (Some fields) = reported Actual (title_at (codes "FA") fields) ++ reported Nominal (title_at (codes "F") fields)

-- a programmed mode, or one in which the machine may take points of its own, or another one
abbrev pub mode_said : List ℕ → List Form
mode_said word =
    if bytes_eq word (codes "PROG") then gained events.Mode ∷ gained events.OwnPoints ∷ []
    else if bytes_eq word (codes "AUTO") then gained events.Mode ∷ lost events.OwnPoints ∷ []
    else one (lost events.Mode)

-- units: the first word is that of lengths, the second one that of angles
abbrev pub units_said : List Lexeme → List Form
units_said behind =
    turns events.Unit (bytes_eq (first_field behind) (codes "MM"))
    ∷ turns events.Angle (bytes_eq (word_in (second_field_at behind)) (codes "ANGDEC")) ∷ []

-- how the controller goes on: by a command of its own it may do anything, and it may stop for good
abbrev pub switched : List ℕ → List Form
switched word =
    if bytes_eq word (codes "COMAND") then one (lost events.All)
    else if bytes_eq word (codes "ABORT") then one (gained events.Ends)
    else []

-- carriages one behind the other, or apart, are as without the word; else anything may have changed
abbrev pub carried : List ℕ → List Form
carried word =
    if bytes_eq word (codes "SEQNTL") then []
    else if bytes_eq word (codes "OFF") then []
    else one (lost events.All)

-- a declaration of texts declares no number as it stands
abbrev pub texts_declared : Bool → List Form
texts_declared true = one (Declaration kinds.Int [])
texts_declared false = []

-- ---- each statement

-- what a statement says by its row: whether planes have their place and direction, the statement of the language that it is, if it is one, its line, all its words,
-- and those behind the major word
abbrev pub row_said : Bool → Row → Option Form → ℕ → (ws behind : List Lexeme) → List Form
row_said planes row.Shape f line ws behind = stated f
row_said planes row.Case f line ws behind = case_said f (values_of ws)
row_said planes row.Datum f line ws behind = one (gained events.Bind)
row_said planes row.Stated f line ws behind = or_said f (texts_declared (is_some (char_at ws)))
row_said planes row.Output f line ws behind = or_said f (report_at (past marks.Slash behind))
row_said planes row.Value f line ws behind = or_said f (value_lost (assigned_at ws))
row_said planes row.Motion f line ws behind = or_said f (polar_or (polar_motion behind) events.PolarMotion (motion_otherwise (step_at behind) behind))
row_said planes row.Aim f line ws behind = one (spotted spots.Target (place_given behind))
row_said planes row.Target f line ws behind = one (gained events.Target)
row_said planes row.Touch f line ws behind = or_said f (polar_or (polar_touch behind) events.PolarPoint (touch_otherwise (slant_at behind) behind))
row_said planes row.Scan f line ws behind = one (gained events.UntriedPoint)
row_said planes row.Text f line ws behind = or_said f (text_lost (first_field behind) behind)
row_said planes row.Test f line ws behind = or_said f (one (Test unknown))
row_said planes row.Loop f line ws behind = or_said f (one (Repeat unknown_rounds))
row_said planes row.Choice f line ws behind = or_said f (one (Choose unknown))
row_said planes row.Call f line ws behind = call_said (is_outside behind) f
row_said planes row.Feature f line ws behind = or_said f (feature_lost (plane_if planes behind) (title_at (codes "F") ws))
row_said planes row.Measure f line ws behind = or_said f (measure_lost (measured_at behind))
row_said planes row.MeasureEnd f line ws behind = one MeasureEnd
row_said planes row.Qualification f line ws behind = qualified (first_field behind)
row_said planes row.Settings f line ws behind = settings_said f behind
row_said planes row.Frame f line ws behind = or_said f (frame_otherwise (first_field behind) (title_at (codes "D") ws))
row_said planes row.Fit f line ws behind = fitted (title_at (codes "D") ws)
row_said planes row.Recall f line ws behind = or_said f (recall_otherwise (datum_at behind) behind)
row_said planes row.Save f line ws behind = stored (past marks.Slash behind)
row_said planes row.Delete f line ws behind = deleted (past marks.Slash behind)
row_said planes row.Mode f line ws behind = mode_said (first_field behind)
row_said planes row.Units f line ws behind = units_said behind
row_said planes row.Scanning f line ws behind = one (turns events.Scanning (bytes_eq (first_field behind) (codes "OFF")))
row_said planes row.Table f line ws behind = one (lost events.Table)
row_said planes row.Compensation f line ws behind = one (turns events.Compensation (bytes_eq (first_field behind) (codes "ON")))
row_said planes row.Plane f line ws behind = one (turns events.Plane (bytes_eq (first_field behind) (codes "XYPLAN")))
row_said planes row.Sensor f line ws behind = sensor_said (is_plain_sensor (past marks.Slash behind)) line
row_said planes row.From f line ws behind = one (spotted spots.Home (place_given behind))
row_said planes row.Values f line ws behind = values_said (major_of ws) ws
row_said planes row.Features f line ws behind = remade (title_at (codes "F") ws)
row_said planes row.Switch f line ws behind = switched (first_field behind)
row_said planes row.Carriage f line ws behind = carried (first_field behind)
row_said planes row.Silent f line ws behind = []
row_said planes row.Other f line ws behind = one (lost events.All)

-- what a statement on this line says
abbrev pub said : Bool → ℕ → List Lexeme → List Form
said planes line ws = row_said planes (row_in ws) (spelled_in (statement_of ws)) line ws (behind_of ws)
