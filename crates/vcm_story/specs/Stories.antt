-- The story of a run of a loaded code.
use Rattle.std.specs.Prelude.{◌≡◌, ℕ, ◌==◌, nat_lt, Bool, if◌then◌else◌, List, [], ◌++◌, flat_map, Option}
use Rattle.std.specs.Io.KnownBytes.{Appends}
use Rattle.vcm_spec.specs.declared.stop.StopPlace.{StopPlace}
use Rattle.vcm_spec.specs.Setup.{Tables}
use Rattle.vcm_spec.specs.Workpiece.{Workpiece}
use Rattle.vcm_program.specs.declared.accepted.Noticed.{Noticed}
use Rattle.vcm_code.specs.declared.code.Code.{Code}
use Rattle.vcm_way.specs.Ways.{step_marks}
use Rattle.vcm_steps.specs.Passages.{Passage, passages, state_after, steps_taken}
use Rattle.vcm_trace.specs.Traces.{last_line}
use Rattle.vcm_rows.specs.Opening.{opening_rows}
use Rattle.vcm_story.specs.State.{state_rows}
use Rattle.vcm_story.specs.Steps.{step_rows}

-- what a step adds to a story whose first `from` steps are not shown, and these are the rows where it is: before the last of these nothing; with
-- that one the state behind it
abbrev pub rows_from : ℕ → Tables → Passage → List ℕ → List ℕ
rows_from from tables p rows = if nat_lt p.count from then [] else (if p.count == from then state_rows tables from p.after else rows)

-- what a step adds
abbrev pub passage_rows : Workpiece → Tables → ℕ → Passage → List ℕ
passage_rows part tables from p = rows_from from tables p (step_rows tables (step_marks part p) p)

-- where all steps are shown, the state before the first one
abbrev pub start_rows : Workpiece → Code → ℕ → List ℕ
start_rows part c from = if from == 0 then state_rows c.tables 0 (state_after part c 0).world else []

-- the story of a run for at most n steps, of which the first `from` are not shown: what does not change, the state behind those, the steps, and
-- the last line of a trace that has not stopped
abbrev pub story_front : Workpiece → Code → (shown : List ℕ) → (is_listing : Bool) → List Noticed → (from k : ℕ) → List ℕ
story_front part c shown is_listing notices from k =
    (opening_rows part c shown is_listing notices ++ start_rows part c from) ++ flat_map (passage_rows part c.tables from) (passages part c k)

-- the whole story, with what the last line says of the end
abbrev pub story_text : Workpiece → Code → (shown : List ℕ) → (is_listing : Bool) → List Noticed → (from n : ℕ) → List ℕ
story_text part c shown is_listing notices from n =
    story_front part c shown is_listing notices from n ++ last_line c (steps_taken part c n) (state_after part c n) (state_after part c n).world.stop

-- a front of these bytes was written, maybe all of them, and nothing else
abbrev pub TookFront : Option (List ℕ) → Option (List ℕ) → List ℕ → Type 0
TookFront old new bytes = (done : List ℕ) × (rest : List ℕ) × (done ++ rest ≡ bytes) × Appends old new done

-- a story was written and nothing else, and this is the stop of its run, if it came to one
pub record IsStory (part : Workpiece) (c : Code) (text : List ℕ) (n : ℕ) (stop : Option StopPlace) (old new : Option (List ℕ)) : Type 0 where
  pub stop_is : stop ≡ (state_after part c n).world.stop
  pub written : Appends old new text
