-- A run of which it is told why it stopped.
use Rattle.std.specs.Prelude.{◌≡◌, ℕ, List, Option}
use Rattle.std.specs.Io.KnownBytes.{Appends, Keeps}
use Rattle.vcm_num.specs.Written.{AppendsFront}
use Rattle.vcm_spec.specs.declared.stop.StopPlace.{StopPlace}
use Rattle.vcm_spec.specs.Workpiece.{Workpiece}
use Rattle.vcm_code.specs.declared.code.Code.{Code}
use Rattle.vcm_machine.specs.declared.ran.End.TheVariants.{NoMemory}
use Rattle.vcm_machine.specs.declared.ran.Ran.{Ran}
use Rattle.vcm_machine.specs.Running.{started, later, RunEnded}
use Rattle.vcm_state.specs.Held.{Held}
use Rattle.vcm_cause.specs.declared.watching.Progress.{Progress}
use Rattle.vcm_cause.specs.Watched.{seen, HasWatched}
use Rattle.vcm_steps.specs.declared.fault.Unfinished.{Unfinished}
use Rattle.vcm_steps.specs.declared.fault.Unfinished.TheVariants as faults
use Rattle.vcm_backtrace.specs.Sources.{Sourced, IsSourced}
use Rattle.vcm_why.specs.Reasons.{why_lines}

-- what is told of a run for at most n steps that memory didn't cut short, of a code from this text or from none, beside blocks with these names; W is what
-- became of it
pub record IsReason (names : List (List ℕ)) (text : Option (List ℕ)) (part : Workpiece) (c : Code) (n : ℕ) (stop : Option StopPlace) (W : List ℕ → Type 0) : Type 0 where
  pub held : Held
  pub number : ℕ
  pub ran : Ran
  pub progress : Progress
  pub watched : HasWatched part c n held number ran progress
  pub ample : ran.end ≡ NoMemory → ⊥
  pub traced : Option Sourced
  pub is_traced : IsSourced text traced
  pub stop_is : stop ≡ held.state.stop
  pub written : W (why_lines names traced part c.statements held number (seen progress) ran.done)

-- it was written and nothing else, and this is the stop of the run, if it came to one
abbrev pub IsWhy : List (List ℕ) → Option (List ℕ) → Workpiece → Code → ℕ → Option StopPlace → Option (List ℕ) → Option (List ℕ) → Type 0
IsWhy names text part c n stop old new = IsReason names text part c n stop (Appends old new)

-- a run for at most n steps was refused memory after so many of them
abbrev pub IsHaltedAfter : Workpiece → Code → ℕ → ℕ → Type 0
IsHaltedAfter part c n done = RunEnded n (started part c) (later done (started part c)) done NoMemory

-- why it wasn't written to the end: memory was refused before the run, in it or for the text, and nothing was written; or a write failed, and a front of it
-- was written that is not all
abbrev pub IsNoWhy : List (List ℕ) → Option (List ℕ) → Workpiece → Code → ℕ → Unfinished → Option (List ℕ) → Option (List ℕ) → Type 0
IsNoWhy names text part c n faults.NoMemory old new = Keeps old new
IsNoWhy names text part c n (faults.Memory done) old new = IsHaltedAfter part c n done × Keeps old new
IsNoWhy names text part c n (faults.Write done) old new = (stop : Option StopPlace) × IsReason names text part c n stop (AppendsFront old new)
