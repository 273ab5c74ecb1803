-- The backtraces of the statements of some steps of a run with several probes.
use Rattle.std.specs.Prelude.{◌≡◌, ℕ, ◌==◌, Bool, false, cond, List, [], ◌∷◌, ◌++◌, length, replicate, slice_get, Option, Some, None}
use Rattle.vcm_spec.specs.Setup.{Tables}
use Rattle.vcm_code.specs.Code.{CodeStatement}
use Rattle.vcm_steps.specs.Passages.{Passage}
use Rattle.vcm_turning.specs.Steps.{TurnedStep}
use Rattle.vcm_backtrace.specs.Sources.{Sourced, IsSourced}
use Rattle.vcm_backtrace.specs.Backtrace.{backtrace_lines, round_on}
use Rattle.vcm_set_views.specs.declared.ends.SetEnd.{SetEnd}
use Rattle.vcm_set_views.specs.Ends.{HasEnded}
use Rattle.vcm_set_views.specs.Fit.{Fit, steps_of}

-- what was told so far, and the rounds of loops
pub record SoFar : Type 0 where
  pub texts : List (List ℕ)
  pub rounds : List ℕ

-- whether a step is the next that is wanted, if one is
abbrev pub is_wanted : Option ℕ → (count : ℕ) → Bool
is_wanted None k = false
is_wanted (Some w) k = w == k

-- the texts behind a step: if it is wanted, with the backtrace of its statement
abbrev pub texts_on : Option Sourced → List CodeStatement → Tables → (wanted : List ℕ) → List (List ℕ) → (rounds : List ℕ) → Passage → List (List ℕ)
texts_on s ss tables wanted texts rounds p =
    cond (is_wanted (slice_get wanted (length texts)) p.count) (texts ++ backtrace_lines s ss tables p.after.variables rounds p.number ∷ []) texts

-- behind one step more
abbrev pub told_on : Option Sourced → List CodeStatement → Tables → (wanted : List ℕ) → SoFar → TurnedStep → SoFar
told_on s ss tables wanted t step = record {
  texts = texts_on s ss tables wanted t.texts (round_on t.rounds step.passage) step.passage;
  rounds = round_on t.rounds step.passage;
}

-- behind these steps
abbrev pub told_behind : Option Sourced → List CodeStatement → Tables → (wanted : List ℕ) → SoFar → List TurnedStep → SoFar
told_behind s ss tables wanted t [] = t
told_behind s ss tables wanted t (step ∷ steps) = told_behind s ss tables wanted (told_on s ss tables wanted t step) steps

-- from these texts and rounds a step leads to those
abbrev pub HasTold : Option Sourced → List CodeStatement → Tables → (wanted : List ℕ) → List (List ℕ) → List ℕ → List (List ℕ) → List ℕ → TurnedStep → Type 0
HasTold s ss tables wanted texts rounds after later step =
    record { texts = after; rounds = later } ≡ told_on s ss tables wanted (record { texts = texts; rounds = rounds }) step

-- the texts of the first so many steps of a run
abbrev pub backtraces_told : Option Sourced → Fit → (done : ℕ) → (wanted : List ℕ) → List (List ℕ)
backtraces_told s f done wanted = (told_behind s f.code.statements f.code.tables wanted (record { texts = []; rounds = replicate 32 0 }) (steps_of f done)).texts

-- these are they, of the steps of a run for at most n steps, of a code from this text, or from none
pub record AreBacktraces (text : Option (List ℕ)) (f : Fit) (n : ℕ) (wanted : List ℕ) (told : List (List ℕ)) : Type 0 where
  pub traced : Option Sourced
  pub is_traced : IsSourced text traced
  pub end : SetEnd
  pub ended : HasEnded f n end
  pub told_is : told ≡ backtraces_told traced f end.done wanted
