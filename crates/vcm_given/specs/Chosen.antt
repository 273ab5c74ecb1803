-- What a command line says of a text, as statements of it.
use Rattle.std.specs.Prelude.{ℕ, ℤ, pos, negsuc, ◌&&◌, ◌||◌, not, nat_eq, codes, Bool, true, false, if◌then◌else◌, List, [], ◌∷◌, ◌++◌, map, take, drop, Option, Some, None}
use Rattle.std.specs.List.{list_any, flat_map}
use Rattle.std.specs.Str.{bytes_eq}
use Rattle.vcm_lines.specs.declared.logical.Logical.{Logical}
use Rattle.vcm_lines.specs.Lexemes.{Lexeme}
use Rattle.vcm_spec.specs.declared.words.FrameAxis.{FrameAxis}
use Rattle.vcm_spec.specs.declared.words.FrameAxis.TheVariants as axes
use Rattle.vcm_spec.specs.declared.words.Quarters.{Quarters}
use Rattle.vcm_spec.specs.declared.words.Setting.{Setting}
use Rattle.vcm_spec.specs.declared.words.Setting.TheVariants as settings
use Rattle.vcm_expr.specs.Source.{Source}
use Rattle.vcm_forms.specs.declared.statement.Offset.{Offset}
use Rattle.vcm_forms.specs.declared.statement.Form.{Form}
use Rattle.vcm_forms.specs.declared.statement.Form.TheVariants as form
use Rattle.vcm_forms.specs.declared.statement.Statement.{Statement}
use Rattle.vcm_forms.specs.Statements.{as_read}
use Rattle.vcm_events.specs.declared.event.Event.{Event}
use Rattle.vcm_events.specs.declared.event.Event.TheVariants as events
use Rattle.vcm_events.specs.Events.{event_name, event_form, lost, gained}
use Rattle.vcm_events.specs.Joined.{length_of}
use Rattle.vcm_events.specs.Spots.{leg, slanted, pointed, tip_said}
use Rattle.vcm_num.specs.declared.axis.Axis.{Axis}
use Rattle.vcm_num.specs.declared.axis.Axis.TheVariants.{PlusX, MinusX, PlusY, MinusY, PlusZ, MinusZ}
use Rattle.vcm_forms.specs.declared.statement.Coordinates.{Coordinates}
use Rattle.vcm_heads.specs.declared.rows.Row.{Row}
use Rattle.vcm_heads.specs.declared.rows.Row.TheVariants.{Text, Values}
use Rattle.vcm_heads.specs.declared.heads.Mark.TheVariants as marks
use Rattle.vcm_heads.specs.Steps.{◌>>=◌}
use Rattle.vcm_heads.specs.Heads.{past, past_word, label_at, assigned_at, behind_of, major_of, first_field, word_in}
use Rattle.vcm_heads.specs.Rows.{row_in, words_of, own_behind}
use Rattle.vcm_given.specs.declared.choices.GivenFrame.{GivenFrame}
use Rattle.vcm_given.specs.declared.choices.Answer.{Answer}
use Rattle.vcm_given.specs.declared.choices.Choices.{Choices}
use Rattle.vcm_given.specs.declared.answers.Asked.{Asked}
use Rattle.vcm_given.specs.Values.{given_value}
use Rattle.vcm_given.specs.Texts.{fitting_answers}
use Rattle.vcm_given.specs.declared.spoken.Saying.{Saying}
use Rattle.vcm_given.specs.declared.spoken.Saying.TheVariants.{Harmless, Back, Same, Probe, Unclear}
use Rattle.vcm_given.specs.declared.spoken.Spoken.{Spoken}
use Rattle.vcm_given.specs.declared.tips.OtherTip.{OtherTip}
use Rattle.vcm_given.specs.Spoken.{spoken, saying_at}
use Rattle.vcm_given.specs.Tips.{other_tips, is_other_at}

-- choices that leave everything as the text says it, for a tip that is a point
abbrev pub no_choices : Choices
no_choices = record { approach = None; retract = None; search = None; frames = []; answers = []; is_auto = false; is_approached = false; tip = pos 0; harmless = []; table = None; probes = [] }

-- whether something is left to the text
abbrev pub is_left : {A : Type 0} → Option A → Bool
is_left None = true
is_left (Some x) = false

-- whether there is none
abbrev pub is_empty : {A : Type 0} → List A → Bool
is_empty [] = true
is_empty (x ∷ xs) = false

-- whether choices say nothing of a text that is read in one way; how MODE/AUTO is read and how wide the tip is changes none
abbrev pub is_unsaid : Choices → Bool
is_unsaid c =
    is_left c.approach && (is_left c.retract && (is_left c.search && (is_empty c.frames && (is_empty c.answers && (not c.is_approached
    && (is_empty c.harmless && is_left c.table))))))

-- the same, and no file has probes
abbrev pub is_silent : Choices → Bool
is_silent c = is_unsaid c && is_empty c.probes

-- ---- frames

-- a shift along an axis
abbrev pub offset : FrameAxis → ℤ → Offset
offset axis n = leg axis (length_of n)

-- the turn of a frame, under its name
abbrev pub turned : List ℕ → Option (FrameAxis × Quarters) → List Form
turned name None = []
turned name (Some t) = form.Rotation name t.0 t.1 ∷ []

-- a frame that is given: the machine's, shifted and turned
abbrev pub placed : GivenFrame → List Form
placed f =
    gained events.Machine ∷ form.Shift f.name (offset axes.X f.x ∷ offset axes.Y f.y ∷ offset axes.Z f.z ∷ []) ∷ turned f.name f.turn

-- the frame with this name, if it is given
abbrev pub frame_named : List ℕ → List GivenFrame → Option GivenFrame
frame_named name [] = None
frame_named name (f ∷ fs) = if bytes_eq f.name name then Some f else frame_named name fs

-- a frame that the text makes of something that isn't known: where it is given it is placed
abbrev pub placed_or : List ℕ → Option GivenFrame → List Form
placed_or name None = form.Shift name [] ∷ []
placed_or name (Some f) = placed f

-- ---- answers

-- the variable of a question: the label behind QUERY
abbrev pub queried : List Lexeme → Option (List ℕ × List Lexeme)
queried ws = do
  fields ← past marks.Slash ws
  r ← past_word (codes "QUERY") fields
  v ← past marks.Comma r
  label_at v

-- the variable that a statement with this row asks the operator for, no bytes where it asks for none
abbrev pub asked : Row → List Lexeme → List ℕ
asked Text ws = word_in (queried (behind_of ws))
asked Values ws = if bytes_eq (major_of ws) (codes "PROMPT") then word_in (assigned_at ws) else []
asked row ws = []

-- the answer for a variable, if it is given
abbrev pub answer_for : List ℕ → List Answer → Option Answer
answer_for name [] = None
answer_for name (a ∷ rest) = if bytes_eq a.variable name then Some a else answer_for name rest

-- the answer on a line, if there is one
abbrev pub asked_on : ℕ → Option Answer → List Asked
asked_on line None = []
asked_on line (Some a) = record { line = line; answer = a } ∷ []

-- the answers to a text's questions, in order; the machine's own statements ask nothing
abbrev pub asked_from : List Answer → Bool → List Logical → List Asked
asked_from answers own [] = []
asked_from answers own (l ∷ ls) =
    (if own then [] else asked_on l.line (answer_for (asked (row_in (words_of l)) (words_of l)) answers)) ++ asked_from answers (own_behind own (words_of l)) ls

-- the answer to the question on a line
abbrev pub asked_at : ℕ → List Asked → Option Answer
asked_at line [] = None
asked_at line (q ∷ qs) = if nat_eq q.line line then Some q.answer else asked_at line qs

-- the assignment of an answer behind a statement that sets this variable: that of the question itself, or behind PROMPT that of the last event of its line
abbrev pub answered : List ℕ → Option Answer → List Form
answered name None = []
answered name (Some a) =
    if bytes_eq name a.variable || bytes_eq name (event_name events.Features) then form.Assignment (as_read a.variable) (given_value a.value) ∷ [] else []

-- ---- each statement

-- an assignment, with the answer behind it; where MODE/AUTO takes no points of the machine's own, all points are the text's
abbrev pub assigned : Bool → List ℕ → Form → List Form → List Form
assigned auto name f answers =
    if auto && bytes_eq name (event_name events.OwnPoints) then gained events.OwnPoints ∷ [] else f ∷ answers

-- a frame that the text makes: of something that isn't known it is made as it is given
abbrev pub shifted : List GivenFrame → List ℕ → List Offset → List Form
shifted fs name [] = placed_or name (frame_named name fs)
shifted fs name (o ∷ os) = form.Shift name (o ∷ os) ∷ []

-- the direction of an axis, in thousandths
abbrev pub direction_of : Axis → ℤ × ℤ × ℤ
direction_of PlusX = (pos 1000, pos 0, pos 0)
direction_of MinusX = (negsuc 999, pos 0, pos 0)
direction_of PlusY = (pos 0, pos 1000, pos 0)
direction_of MinusY = (pos 0, negsuc 999, pos 0)
direction_of PlusZ = (pos 0, pos 0, pos 1000)
direction_of MinusZ = (pos 0, pos 0, negsuc 999)

-- a point that is approached and left, in this direction
abbrev pub approached_by : Coordinates → ℤ × ℤ × ℤ → Form
approached_by p d = slanted p d.0 d.1 d.2

-- a point, which is approached and left where this is asked for: in its direction, or in that of its feature
abbrev pub touched : Bool → Coordinates → Option Axis → Form
touched false p d = form.Touch p d
touched true p (Some axis) = approached_by p (direction_of axis)
touched true p None = pointed p

-- what a statement on a line is, with what is given
abbrev pub given_form : Choices → List Asked → ℕ → Form → List Form
given_form c qs line (form.Assignment t value) = assigned c.is_auto t.name (form.Assignment t value) (answered t.name (asked_at line qs))
given_form c qs line (form.Shift name os) = shifted c.frames name os
given_form c qs line (form.Touch p d) = touched c.is_approached p d ∷ []
given_form c qs line f = f ∷ []

-- whether a statement is this event
abbrev pub is_event : Event → Form → Bool
is_event e (form.Assignment t value) = bytes_eq t.name (event_name e)
is_event e f = false

-- whether a statement may do anything, or calls something: it says nothing where that is harmless
abbrev pub is_dropped : Form → Bool
is_dropped (form.Call name args) = true
is_dropped f = is_event events.All f

-- whether it says nothing, by what is said of it
abbrev pub is_dropped_by : Option Saying → Form → Bool
is_dropped_by (Some Harmless) f = is_dropped f
is_dropped_by s f = false

-- whether it makes the table known again
abbrev pub is_back_by : Option Saying → Form → Bool
is_back_by (Some Back) f = is_event events.Table f
is_back_by s f = false

-- a statement of which something is said
abbrev pub spoken_form : Option Saying → Form → List Form → List Form
spoken_form s f fs = if is_dropped_by s f then [] else if is_back_by s f then gained events.Table ∷ [] else fs

-- the selection of a sensor that was selected before, by the line of that; of a probe of a file, by its number; of what may be a parameter, as one that isn't known
abbrev pub again : Option Saying → Form → Form
again (Some (Same n)) f = if is_event events.Sensor f then event_form events.Sensor (pos n) else f
again (Some (Probe n)) f = if is_event events.Sensor f then event_form events.Probe (pos n) else f
again (Some Unclear) f = if is_event events.Sensor f then lost events.Sensor else f
again s f = f

-- that a tip of another width is put on, behind the sensor
abbrev pub width_said : Bool → Form → List Form
width_said other f = if other && is_event events.Sensor f then lost events.Width ∷ [] else []

-- what a statement on a line is, with what is said of the line
abbrev pub chosen_form : Choices → List Asked → List Spoken → List OtherTip → ℕ → Form → List Form
chosen_form c qs ps ts line f =
    spoken_form (saying_at line ps) f (given_form c qs line (again (saying_at line ps) f) ++ width_said (is_other_at line ts) f)

-- a setting that is given
abbrev pub setting : Setting → Option ℤ → List Form
setting which None = []
setting which (Some n) = form.Configure which (length_of n) ∷ []

-- the machine's frame again, behind frames that are given
abbrev pub machine_again : List GivenFrame → List Form
machine_again [] = []
machine_again (f ∷ fs) = gained events.Machine ∷ []

-- the settings that are given
unfoldable pub chosen_settings : Choices → List Form
chosen_settings c = setting settings.Approach c.approach ++ (setting settings.Retract c.retract ++ setting settings.Search c.search)

-- what is said before the first statement: how wide the tip is, the settings, and where the frames lie
abbrev pub chosen_first : Choices → List Form
chosen_first c = tip_said c.tip ∷ (chosen_settings c ++ (flat_map placed c.frames ++ machine_again c.frames))

-- forms as statements of a line
abbrev pub on_line : ℕ → List Form → List Statement
on_line line fs = map (λ f. record { line = line; form = f }) fs

-- a statement, with what is given
abbrev pub chosen_statement : Choices → List Asked → List Spoken → List OtherTip → Statement → List Statement
chosen_statement c qs ps ts s = on_line s.line (chosen_form c qs ps ts s.line s.form)

-- statements, of which the first two open their text, with what is given, by what their lines ask for and what is said of them
abbrev pub chosen_by : Choices → List Asked → List Spoken → List OtherTip → List Statement → List Statement
chosen_by c qs ps ts ss = take 2 ss ++ (on_line 1 (chosen_first c) ++ flat_map (chosen_statement c qs ps ts) (drop 2 ss))

-- the statements that the lines of a text say, with what is given
abbrev pub chosen : Choices → List Logical → List Statement → List Statement
chosen c ls ss = chosen_by c (asked_from (fitting_answers c.answers ls) false ls) (spoken c.probes c.harmless c.table ls) (other_tips c.probes c.tip ls) ss
