-- What the steps of a run measure, for its sheet.
use Rattle.std.specs.Prelude.{ℕ, nat_le, if◌then◌else◌, List, [], ◌∷◌, ◌++◌, Option, Some, None}
use Rattle.vcm_spec.specs.declared.feature.Feature.{Feature}
use Rattle.vcm_spec.specs.declared.stop.StopPlace.{StopPlace}
use Rattle.vcm_spec.specs.Effect.{at_index}
use Rattle.vcm_spec.specs.Frame.{Frame}
use Rattle.vcm_spec.specs.Workpiece.{Workpiece}
use Rattle.vcm_spec.specs.World.{World}
use Rattle.vcm_code.specs.declared.code.Code.{Code}
use Rattle.vcm_code.specs.Code.{Op}
use Rattle.vcm_marks.specs.declared.mark.PlacedMark.{PlacedMark}
use Rattle.vcm_trace.specs.declared.told.Told.{Told}
use Rattle.vcm_trace.specs.declared.told.Told.TheVariants as told
use Rattle.vcm_trace.specs.Lines.{told_of}
use Rattle.vcm_trace.specs.Framed.{Frames, FramedStep}
use Rattle.vcm_trace.specs.Deviations.{told_deviation}
use Rattle.vcm_trace.specs.Rows.{framed_steps}
use Rattle.vcm_way.specs.Ways.{Kept}
use Rattle.vcm_sheet.specs.declared.readings.Reading.{Reading}

-- what a step measured in the current frame of a feature that was declared so, in such a frame, if its point is there
abbrev pub reading_with : ℕ → Option Frame → Frame → Option Feature → Option Feature → List Reading
reading_with step declared current nominal None = []
reading_with step declared current nominal (Some actual) =
    record { step = step; at = actual.at; deviation = told_deviation declared current nominal actual } ∷ []

-- what a step measured that tells this, in the state after it, where features were declared in these frames
abbrev pub told_reading : Frames → ℕ → World → Told → List Reading
told_reading fs step w (told.Measured i) = reading_with step (at_index fs i) w.frame (at_index w.nominal i) (at_index w.actual i)
told_reading fs step w _ = []

-- what a step measured that came to this stop, if it came to one
abbrev pub step_reading : Frames → ℕ → Op → World → Option StopPlace → List Reading
step_reading fs step op w (Some stop) = []
step_reading fs step op w None = told_reading fs step w (told_of op)

-- with what a step measured, where it isn't before this one
abbrev pub read_with : ℕ → List Reading → Frames → ℕ → Op → World → Option StopPlace → List Reading
read_with from rs fs step op w stop = if nat_le from step then rs ++ step_reading fs step op w stop else rs

-- the same of a step of a run
abbrev pub read_one : ℕ → List Reading → FramedStep → List Reading
read_one from rs s = read_with from rs s.frames s.passage.count s.passage.statement.op s.passage.after s.passage.after.stop

-- with what these steps measured
abbrev pub readings_behind : ℕ → List Reading → List FramedStep → List Reading
readings_behind from rs [] = rs
readings_behind from rs (s ∷ ss) = readings_behind from (read_one from rs s) ss

-- the step of the first of some marks, or 0
abbrev pub first_step : List PlacedMark → ℕ
first_step [] = 0
first_step (m ∷ ms) = m.step

-- what the steps measured of a run for at most n steps, from the first one of which a way keeps something
abbrev pub run_readings : Workpiece → Code → ℕ → Kept → List Reading
run_readings part c n way = readings_behind (first_step way.marks) [] (framed_steps part c n)
