-- The story of a run with several probes.
use Rattle.std.specs.Prelude.{ℕ, ◌-◌, Bool, ◌==◌, if◌then◌else◌, List, [], ◌++◌, flat_map}
use Rattle.vcm_spec.specs.Setup.{Tables}
use Rattle.vcm_marks.specs.declared.mark.Mark.{Mark}
use Rattle.vcm_program.specs.declared.accepted.Noticed.{Noticed}
use Rattle.vcm_rows.specs.Opening.{opening_rows}
use Rattle.vcm_story.specs.State.{state_rows}
use Rattle.vcm_story.specs.Steps.{step_rows}
use Rattle.vcm_story.specs.Stories.{rows_from}
use Rattle.vcm_turning.specs.Steps.{TurnedStep, turned_marks}
use Rattle.vcm_set_views.specs.declared.ends.SetEnd.{SetEnd}
use Rattle.vcm_set_views.specs.Fit.{Fit, steps_of, behind}
use Rattle.vcm_set_views.specs.Rows.{last_row}

-- how many steps aren't shown of a run of so many: all but the last hundred thousand
abbrev pub not_shown : ℕ → ℕ
not_shown n = n - 100000

-- what a step adds that adds these marks to the way, where the first `from` steps aren't shown
abbrev pub turned_rows : (from : ℕ) → Tables → TurnedStep → List Mark → List ℕ
turned_rows from tables s marks = rows_from from tables s.passage (step_rows tables marks s.passage)

-- where all steps are shown, the state before the first one
abbrev pub first_rows : Fit → (from : ℕ) → List ℕ
first_rows f from = if from == 0 then state_rows f.code.tables 0 (behind f 0).state.world else []

-- the story of a run that ended so: what doesn't change, the state behind the steps that aren't shown, the steps, and the last row of the trace
abbrev pub story_of : Fit → (shown : List ℕ) → (is_listing : Bool) → List Noticed → SetEnd → List ℕ
story_of f shown is_listing notices e =
    ((opening_rows f.part f.code shown is_listing notices ++ first_rows f (not_shown e.done))
    ++ flat_map (λ s. turned_rows (not_shown e.done) f.code.tables s (turned_marks f.part f.probes s)) (steps_of f e.done)) ++ last_row f e.done e.end
