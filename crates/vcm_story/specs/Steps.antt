-- The rows of a step.
use Rattle.std.specs.Prelude.{ℕ, ◌-◌, List, [], ◌∷◌, ◌++◌, length, flat_map, unwrap_or, slice_get, Option, Some, None, codes}
use Rattle.vcm_spec.specs.declared.stop.StopPlace.{StopPlace}
use Rattle.vcm_spec.specs.declared.words.Source.TheVariants.{Nominal, Actual}
use Rattle.vcm_spec.specs.Effect.{at_index}
use Rattle.vcm_spec.specs.Setup.{Tables}
use Rattle.vcm_spec.specs.World.{World}
use Rattle.vcm_marks.specs.declared.mark.Mark.{Mark}
use Rattle.vcm_report.specs.Printed.{in_a_row, name_at, feature_text}
use Rattle.vcm_rows.specs.Spelled.{spelled}
use Rattle.vcm_rows.specs.Frames.{frame_end}
use Rattle.vcm_rows.specs.Marks.{mark_row}
use Rattle.vcm_steps.specs.Passages.{Passage}
use Rattle.vcm_trace.specs.declared.told.Told.{Told}
use Rattle.vcm_trace.specs.declared.told.Told.TheVariants as told
use Rattle.vcm_trace.specs.Lines.{told_of}
use Rattle.vcm_trace.specs.Traces.{trace_line}

-- ---- the way

-- the marks of a step with this stop; a move that came to its end has none: it goes from the place before the step to the one behind it
abbrev pub way_rows : Tables → Option StopPlace → Told → List Mark → List ℕ
way_rows tables (Some stop) told marks = flat_map (mark_row tables) marks
way_rows tables None told.Moved marks = []
way_rows tables None _ marks = flat_map (mark_row tables) marks

-- ---- what it changed

-- the last output line
abbrev pub last_printed : List (List ℕ) → List ℕ
last_printed lines = unwrap_or (slice_get lines (length lines - 1)) []

-- an output line: o and its bytes
abbrev pub printed_row : List ℕ → List ℕ
printed_row line = codes "o " ++ (spelled line ++ codes "\n")

-- the frame that became the current one: d, its name and the frame
abbrev pub framed_row : List ℕ → World → List ℕ
framed_row name w = in_a_row (codes "d " ∷ name ∷ codes " " ∷ []) ++ frame_end w.frame

-- what a statement changed, besides what its line tells, in the state behind it
abbrev pub change_row : Tables → World → Told → List ℕ
change_row tables w (told.Declared f) = codes "f " ++ feature_text tables Nominal f (at_index w.nominal f)
change_row tables w (told.Measured f) = codes "f " ++ feature_text tables Actual f (at_index w.actual f)
change_row tables w (told.Framed d) = framed_row (name_at tables.frames d) w
change_row tables w told.Printed = printed_row (last_printed w.lines)
change_row tables w _ = []

-- of a statement that stopped nothing
abbrev pub change_rows : Tables → World → Option StopPlace → Told → List ℕ
change_rows tables w (Some stop) told = []
change_rows tables w None told = change_row tables w told

-- ---- all of it

-- a step that added these marks to the way: its line of the trace, the marks, and what it changed
abbrev pub step_rows : Tables → List Mark → Passage → List ℕ
step_rows tables marks p =
    trace_line tables p ++ (way_rows tables p.after.stop (told_of p.statement.op) marks ++ change_rows tables p.after p.after.stop (told_of p.statement.op))
