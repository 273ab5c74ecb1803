-- The measured points of a run.
use Rattle.std.specs.Prelude.{ℕ, ℤ, ◌+◌, ◌-◌, ◌^◌, min, unsigned_abs, nat_le, nat_eq, ◌||◌, if◌then◌else◌, List, [], ◌∷◌, Option, Some, None}
use Rattle.vcm_spec.specs.declared.feature.Feature.{Feature}
use Rattle.vcm_spec.specs.declared.stop.StopPlace.{StopPlace}
use Rattle.vcm_spec.specs.Effect.{at_index}
use Rattle.vcm_spec.specs.Frame.{Frame}
use Rattle.vcm_spec.specs.World.{World}
use Rattle.vcm_code.specs.Code.{Op}
use Rattle.vcm_trace.specs.declared.told.Told.{Told}
use Rattle.vcm_trace.specs.declared.told.Told.TheVariants as told
use Rattle.vcm_trace.specs.Lines.{told_of}
use Rattle.vcm_trace.specs.Framed.{Frames, FramedStep}
use Rattle.vcm_trace.specs.Deviations.{told_deviation}
use Rattle.vcm_summary.specs.declared.findings.Deviation.{Deviation}
use Rattle.vcm_summary.specs.declared.findings.Findings.{Findings}

-- before the first step
abbrev pub nothing_found : Findings
nothing_found = record { begun = None; points = 0; greatest = None }

-- how long a length is, either way, if there is one
abbrev pub size_of : Option ℤ → Option ℕ
size_of (Some z) = Some (unsigned_abs z)
size_of None = None

-- the greater of two, the first of equals
abbrev pub greater : Option Deviation → Deviation → Option Deviation
greater None d = Some d
greater (Some first) d = if nat_le d.size first.size then Some first else Some d

-- the greatest with one point more, which lies so far off
abbrev pub with_off : Option Deviation → Option ℕ → (feature step line : ℕ) → Option Deviation
with_off before None feature step line = before
with_off before (Some size) feature step line = greater before (record { size = size; feature = feature; step = step; line = line })

-- what was found with one point more that was measured in the current frame, of a feature that was declared in such a one, if it is there; points are counted as far as
-- 64 bits go
abbrev pub with_point : Findings → Option Frame → Frame → Option Feature → Option Feature → (feature step line : ℕ) → Findings
with_point f declared current nominal None feature step line = f
with_point f declared current nominal (Some actual) feature step line = record {
  begun = f.begun;
  points = min (f.points + 1) (2 ^ 64 - 1);
  greatest = with_off f.greatest (size_of (told_deviation declared current nominal actual)) feature step line;
}

-- what was found with a statement that tells this, in the state after it, where features were declared in these frames: a measurement has a point
abbrev pub told_with : Findings → Frames → World → Told → (step line : ℕ) → Findings
told_with f fs w (told.Measured i) step line = with_point f (at_index fs i) w.frame (at_index w.nominal i) (at_index w.actual i) i step line
told_with f fs w _ step line = f

-- what was found with a step that came to this stop, if it came to one
abbrev pub found_with : Findings → Frames → Op → ℕ → World → Option StopPlace → ℕ → Findings
found_with f fs op line w (Some stop) step = f
found_with f fs op line w None step = told_with f fs w (told_of op) step line

-- what is found begins at this line, or at any where that is 0: with the first statement of it
abbrev pub begun_at : Findings → Option ℕ → (from line step : ℕ) → Findings
begun_at f (Some first) from line step = f
begun_at f None from line step =
    if nat_eq from 0 || nat_eq from line then record { begun = Some step; points = f.points; greatest = f.greatest } else f

-- the same of what was found before
abbrev pub begun_with : Findings → (from line step : ℕ) → Findings
begun_with f from line step = begun_at f f.begun from line step

-- what was found with a step, once it has begun
abbrev pub found_since : Findings → Option ℕ → Frames → Op → ℕ → World → Option StopPlace → ℕ → Findings
found_since f None fs op line w stop step = f
found_since f (Some first) fs op line w stop step = found_with f fs op line w stop step

-- the same, where it has begun as this says
abbrev pub found_after : Findings → Frames → Op → ℕ → World → Option StopPlace → ℕ → Findings
found_after f fs op line w stop step = found_since f f.begun fs op line w stop step

-- what was found with one step more, from a line on
abbrev pub found_one : ℕ → Findings → FramedStep → Findings
found_one from f s =
    found_after (begun_with f from s.passage.statement.line s.passage.count) s.frames s.passage.statement.op s.passage.statement.line s.passage.after s.passage.after.stop
    s.passage.count

-- after these steps
abbrev pub found_behind : ℕ → Findings → List FramedStep → Findings
found_behind from f [] = f
found_behind from f (s ∷ ss) = found_behind from (found_one from f s) ss

-- in these steps
abbrev pub found_in : ℕ → List FramedStep → Findings
found_in from ss = found_behind from nothing_found ss
