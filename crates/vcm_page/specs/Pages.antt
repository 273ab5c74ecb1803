-- The page of a run of a code.
use Rattle.std.specs.Prelude.{ℕ, ◌-◌, Bool, List, ◌++◌, codes}
use Rattle.vcm_spec.specs.Workpiece.{Workpiece}
use Rattle.vcm_program.specs.declared.accepted.Noticed.{Noticed}
use Rattle.vcm_code.specs.declared.code.Code.{Code}
use Rattle.vcm_steps.specs.Passages.{steps_taken}
use Rattle.vcm_story.specs.Stories.{story_text}

-- how many steps of a run that has this many are not shown: all but the last 100,000
abbrev pub not_shown : ℕ → ℕ
not_shown n = n - 100000

-- a page: what stands before the story, the story, the end of its element, and what stands behind it
abbrev pub page_text : (front : List ℕ) → (story : List ℕ) → (back : List ℕ) → List ℕ
page_text front story back = front ++ (story ++ (codes "</script>\n" ++ back))

-- the story of a page: that of a run for at most n steps, of which the last 100,000 are shown
abbrev pub story_of : Workpiece → Code → (shown : List ℕ) → (is_listing : Bool) → List Noticed → ℕ → List ℕ
story_of part c shown is_listing notices n = story_text part c shown is_listing notices (not_shown (steps_taken part c n)) n
