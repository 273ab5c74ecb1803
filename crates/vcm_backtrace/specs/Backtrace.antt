-- The backtrace of a statement at a step of a run: the CALLs, and the rounds of the loops round it.
use Rattle.std.specs.Prelude.{◌≡◌, ℕ, ℤ, List, [], ◌∷◌, ◌++◌, Option, Some, None}
use Rattle.vcm_spec.specs.Setup.{Tables}
use Rattle.vcm_spec.specs.Workpiece.{Workpiece}
use Rattle.vcm_code.specs.Code.{CodeStatement}
use Rattle.vcm_code.specs.declared.code.Code.{Code}
use Rattle.vcm_steps.specs.Passages.{Passage, state_after}
use Rattle.vcm_cause.specs.Behind.{rounds_behind, behind_run}
use Rattle.vcm_backtrace.specs.Sources.{Sourced}
use Rattle.vcm_backtrace.specs.Calls.{call_lines}
use Rattle.vcm_backtrace.specs.Loops.{loop_lines}

-- the CALLs that the statement with this number comes from, and a line for each loop round it, where variables have these values and loops have begun these rounds
abbrev pub text_lines : Sourced → List CodeStatement → Tables → (values : List ℤ) → (rounds : List ℕ) → (number : ℕ) → List ℕ
text_lines s ss tables values rounds number = call_lines s number ++ loop_lines tables values rounds number ss number

-- the same, if there is a text
abbrev pub backtrace_lines : Option Sourced → List CodeStatement → Tables → (values : List ℤ) → (rounds : List ℕ) → (number : ℕ) → List ℕ
backtrace_lines (Some s) ss tables values rounds number = text_lines s ss tables values rounds number
backtrace_lines None ss tables values rounds number = []

-- behind so many steps of a run
abbrev pub backtrace_at : Option Sourced → Workpiece → Code → (step number : ℕ) → List ℕ
backtrace_at s part c step number = backtrace_lines s c.statements c.tables (state_after part c step).world.variables (behind_run part c step).rounds number

-- ---- step by step

-- the rounds behind one step more
abbrev pub round_on : List ℕ → Passage → List ℕ
round_on rounds p = rounds_behind rounds p.statement.op p.number p.next p.after.stop

-- the rounds behind these steps
abbrev pub rounds_along : List ℕ → List Passage → List ℕ
rounds_along rounds [] = rounds
rounds_along rounds (p ∷ ps) = rounds_along (round_on rounds p) ps

-- at each of these steps of this code this text is told of its statement
abbrev pub IsToldAlong : ((step number : ℕ) → List ℕ) → Option Sourced → List CodeStatement → Tables → List ℕ → List Passage → Type 0
IsToldAlong below s ss tables rounds [] = Unit {0}
IsToldAlong below s ss tables rounds (p ∷ ps) =
    (below p.count p.number ≡ backtrace_lines s ss tables p.after.variables (round_on rounds p) p.number) × IsToldAlong below s ss tables (round_on rounds p) ps
