-- A run of which the first contact of a box is told.
use Rattle.std.specs.Prelude.{◌≡◌, ℕ, true, false, List, Option, Some, None}
use Rattle.std.specs.Io.KnownBytes.{Appends, Keeps}
use Rattle.vcm_num.specs.Written.{AppendsFront}
use Rattle.vcm_spec.specs.declared.stop.StopPlace.{StopPlace}
use Rattle.vcm_spec.specs.Workpiece.{Workpiece}
use Rattle.vcm_code.specs.declared.code.Code.{Code}
use Rattle.vcm_machine.specs.declared.ran.End.TheVariants.{NoMemory}
use Rattle.vcm_machine.specs.declared.ran.Ran.{Ran}
use Rattle.vcm_machine.specs.Running.{started, later, RunEnded}
use Rattle.vcm_state.specs.Held.{Held}
use Rattle.vcm_cause.specs.declared.watching.Progress.{Progress}
use Rattle.vcm_cause.specs.Watched.{seen, HasWatched}
use Rattle.vcm_steps.specs.declared.fault.Unfinished.{Unfinished}
use Rattle.vcm_steps.specs.declared.fault.Unfinished.TheVariants as faults
use Rattle.vcm_backtrace.specs.Sources.{Sourced, IsSourced}
use Rattle.vcm_boxes.specs.declared.boxes.ProbeBox.{ProbeBox}
use Rattle.vcm_first_contact.specs.declared.first.FirstContact.{FirstContact}
use Rattle.vcm_first_contact.specs.declared.telling.FirstTold.{FirstTold}
use Rattle.vcm_first_contact.specs.First.{first_contact}
use Rattle.vcm_first_contact.specs.Lines.{told_lines}

-- how many steps are taken up to the first contact, or without one so many
abbrev pub steps_up_to : Option FirstContact → ℕ → ℕ
steps_up_to (Some f) n = f.told.step
steps_up_to None n = n

-- what a run came to that stands here
abbrev pub told_of : Option FirstContact → Option StopPlace → FirstTold
told_of (Some f) stop = record { is_met = true; stop = None }
told_of None stop = record { is_met = false; stop = stop }

-- the first contact of a run for at most n steps, of a code from this text or from none, beside blocks with these names, that memory didn't cut short; W is what became of
-- what is told of it
pub record IsFirstTold (names : List (List ℕ)) (text : Option (List ℕ)) (part : Workpiece) (boxes : List ProbeBox) (c : Code) (n : ℕ) (told : FirstTold) (W : List ℕ → Type 0) : Type 0 where
  pub held : Held
  pub number : ℕ
  pub ran : Ran
  pub progress : Progress
  pub watched : HasWatched part c (steps_up_to (first_contact part boxes c n) n) held number ran progress
  pub ample : ran.end ≡ NoMemory → ⊥
  pub source : Option Sourced
  pub is_source : IsSourced text source
  pub told_is : told ≡ told_of (first_contact part boxes c n) held.state.stop
  pub written : W (told_lines names source part boxes c.statements held number (seen progress) ran.done (first_contact part boxes c n))

-- it was written and nothing else
abbrev pub IsTold : List (List ℕ) → Option (List ℕ) → Workpiece → List ProbeBox → Code → ℕ → FirstTold → Option (List ℕ) → Option (List ℕ) → Type 0
IsTold names text part boxes c n told old new = IsFirstTold names text part boxes c n told (Appends old new)

-- a run for at most n steps was refused memory after so many of them
abbrev pub IsHaltedAfter : Workpiece → Code → ℕ → ℕ → Type 0
IsHaltedAfter part c n done = RunEnded n (started part c) (later done (started part c)) done NoMemory

-- why it wasn't written to the end: memory was refused, and nothing was written; or a write failed, and a front of it was written that is not all
abbrev pub IsNotTold : List (List ℕ) → Option (List ℕ) → Workpiece → List ProbeBox → Code → ℕ → Unfinished → Option (List ℕ) → Option (List ℕ) → Type 0
IsNotTold names text part boxes c n faults.NoMemory old new = Keeps old new
IsNotTold names text part boxes c n (faults.Memory done) old new = IsHaltedAfter part c n done × Keeps old new
IsNotTold names text part boxes c n (faults.Write done) old new = (told : FirstTold) × IsFirstTold names text part boxes c n told (AppendsFront old new)
