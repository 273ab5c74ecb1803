-- The lines of a trace: fields with commas between them.
use Rattle.std.specs.Prelude.{ℕ, pos, List, [], ◌∷◌, ◌++◌, length, slice_get, unwrap_or, Option, Some, None, decimal, codes}
use Rattle.vcm_num.specs.declared.point.Point.{Point}
use Rattle.vcm_num.specs.Texts.{thousandths}
use Rattle.vcm_spec.specs.declared.feature.Feature.{Feature}
use Rattle.vcm_spec.specs.declared.stop.StopPlace.{StopPlace}
use Rattle.vcm_spec.specs.declared.words.Setting.{Setting}
use Rattle.vcm_spec.specs.declared.words.Setting.TheVariants.{Approach, Retract, Search, Depth}
use Rattle.vcm_spec.specs.declared.words.Source.TheVariants as sources
use Rattle.vcm_spec.specs.Setup.{Tables}
use Rattle.vcm_spec.specs.Texts.{letters}
use Rattle.vcm_spec.specs.World.{Settings, World}
use Rattle.vcm_spec.specs.Effect.{at_index}
use Rattle.vcm_spec.specs.declared.simple.Simple.TheVariants.{Goto, GoHome, Assign, Feat, PtMeas, SnSet, Trans, Rotate, Recall, Obtain, Output, Text}
use Rattle.vcm_code.specs.declared.op.Op.TheVariants.{Plain, If, Else, EndIf, Do, EndDo, Label, JumpTo, Meas, EndMes, Select, Case, EndCas, DftCas, EndSel}
use Rattle.vcm_code.specs.declared.op.Op.TheVariants.{EndFil}
use Rattle.vcm_code.specs.Code.{Op, CodeStatement}
use Rattle.vcm_code.specs.Words.{word_of, word_text}
use Rattle.vcm_words.specs.Operands.{setting_text}
use Rattle.vcm_report.specs.Printed.{in_a_row, point_text, no_stop_line, name_at, stopped_line}
use Rattle.vcm_console.specs.Replies.{variable_name, value_text}
use Rattle.vcm_trace.specs.declared.told.Told.{Told}
use Rattle.vcm_trace.specs.declared.told.Told.TheVariants as told

-- the first line
abbrev pub heading : List ℕ
heading = codes "step,statement,line,word,x,y,z,done\n"

-- how many steps were taken, the statement's number, its source line and its word
abbrev pub line_numbers : (count number line : ℕ) → List ℕ → List ℕ
line_numbers count number line word =
    in_a_row (decimal count ∷ codes "," ∷ decimal number ∷ codes "," ∷ decimal line ∷ codes "," ∷ word ∷ codes "," ∷ [])

-- a line but for its last field: these, and the position in millimetres with three decimals
abbrev pub line_front : (count number line : ℕ) → List ℕ → Point → List ℕ
line_front count number line word at = line_numbers count number line word ++ (point_text (codes ",") at ++ codes ",")

-- ---- what is told of a statement that did not stop

-- which statement tells what
abbrev pub told_of : Op → Told
told_of EndFil = told.Nothing
told_of (Plain (Goto x y z)) = told.Moved
told_of (Plain GoHome) = told.Moved
told_of (Plain (Assign v e)) = told.Value v
told_of (If e to) = told.Next
told_of (Else to) = told.Next
told_of EndIf = told.Nothing
told_of (Do v p a b c exit) = told.Index v
told_of (EndDo v p back) = told.Index v
told_of Label = told.Nothing
told_of (JumpTo to) = told.Next
told_of (Plain (Feat f x y z toward)) = told.Declared f
told_of (Meas f) = told.Nothing
told_of (Plain (PtMeas f x y z toward)) = told.Measured f
told_of EndMes = told.Nothing
told_of (Plain (SnSet which e)) = told.Length which
told_of (Plain (Trans d x y z)) = told.Framed d
told_of (Plain (Rotate d axis quarters)) = told.Framed d
told_of (Plain (Recall d)) = told.Framed d
told_of (Plain (Obtain v source f word)) = told.Value v
told_of (Plain (Output source f)) = told.Printed
told_of (Plain (Text bs)) = told.Printed
told_of (Select e bs to) = told.Next
told_of Case = told.Nothing
told_of (EndCas to) = told.Next
told_of DftCas = told.Nothing
told_of EndSel = told.Nothing

-- the next statement: next 3
abbrev pub next_text : ℕ → List ℕ
next_text n = in_a_row (codes "next " ∷ decimal n ∷ [])

-- a variable and its value, as the debugger shows them but for the sign between: I=3
abbrev pub value_shown : Tables → World → ℕ → List ℕ
value_shown tables w v =
    variable_name tables v ++ (codes "=" ++ value_text (slice_get tables.variables v) (unwrap_or (slice_get w.variables v) (pos 0)))

-- the index of a loop, and the next statement: I=3 next 1
abbrev pub index_shown : Tables → World → ℕ → ℕ → List ℕ
index_shown tables w v next = value_shown tables w v ++ (codes " " ++ next_text next)

-- a name in brackets behind the letters of its table: F(P1)
abbrev pub bracketed : List ℕ → List ℕ → List ℕ
bracketed front name = in_a_row (front ∷ name ∷ codes ")" ∷ [])

-- a point in millimetres, with a blank in front of each coordinate
abbrev pub point_shown : Point → List ℕ
point_shown at = codes " " ++ point_text (codes " ") at

-- where a feature was touched, if it was
abbrev pub touched_at : Option Feature → List ℕ
touched_at None = []
touched_at (Some f) = point_shown f.at

-- a feature that was measured, and the touched point in part coordinates: FA(P1) 20.000 20.000 20.000
abbrev pub measured : Tables → World → ℕ → List ℕ
measured tables w f = bracketed (letters sources.Actual) (name_at tables.features f) ++ touched_at (at_index w.actual f)

-- the length of a setting, in micrometres
abbrev pub setting_length : Settings → Setting → ℕ
setting_length s Approach = s.approach
setting_length s Retract = s.retract
setting_length s Search = s.search
setting_length s Depth = s.depth

-- a setting and its length in millimetres: APPRCH=2.000
abbrev pub length_shown : Settings → Setting → List ℕ
length_shown s which = in_a_row (setting_text which ∷ codes "=" ∷ thousandths (pos (setting_length s which)) ∷ [])

-- how many output lines there are: output 3
abbrev pub count_shown : ℕ → List ℕ
count_shown n = in_a_row (codes "output " ∷ decimal n ∷ [])

-- what is told in the state behind a statement, before the statement with this number
abbrev pub told_text : Tables → World → (next : ℕ) → Told → List ℕ
told_text tables w next told.Moved = codes "moved"
told_text tables w next (told.Value v) = value_shown tables w v
told_text tables w next (told.Index v) = index_shown tables w v next
told_text tables w next told.Next = next_text next
told_text tables w next (told.Declared f) = bracketed (letters sources.Nominal) (name_at tables.features f)
told_text tables w next (told.Measured f) = measured tables w f
told_text tables w next (told.Length which) = length_shown w.settings which
told_text tables w next (told.Framed d) = bracketed (codes "D(") (name_at tables.frames d)
told_text tables w next told.Printed = count_shown (length w.lines)
told_text tables w next told.Nothing = []

-- ---- whole lines

-- what is told of a statement, and the end of the line
abbrev pub done_end : Tables → World → (next : ℕ) → Op → List ℕ
done_end tables w next op = told_text tables w next (told_of op) ++ codes "\n"

-- the last field of a step's line, and its end: the stop's line where it stopped, otherwise what is told of the statement
abbrev pub step_end : Tables → World → (next : ℕ) → Op → Option StopPlace → List ℕ
step_end tables w next op (Some p) = stopped_line tables p
step_end tables w next op None = done_end tables w next op

-- the line of a step: how many steps were taken with it, the number of the statement that was carried out, this statement, and the state
-- and the next statement's number behind it
abbrev pub step_line : Tables → (count number : ℕ) → CodeStatement → World → (next : ℕ) → List ℕ
step_line tables count number s w next =
    line_front count number s.line (word_text (word_of s.op)) w.position ++ step_end tables w next s.op w.stop

-- the line of a run that has not stopped: how many steps were taken, the next statement's number and its source line, no word, and where
-- the probe is
abbrev pub open_line : (count next line : ℕ) → World → List ℕ
open_line count next line w = line_front count next line [] w.position ++ no_stop_line count
