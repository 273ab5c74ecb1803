-- A run that was watched.
use Rattle.std.specs.Prelude.{◌≡◌, ℕ}
use Rattle.vcm_spec.specs.Workpiece.{Workpiece}
use Rattle.vcm_code.specs.declared.code.Code.{Code}
use Rattle.vcm_machine.specs.declared.ran.Ran.{Ran}
use Rattle.vcm_machine.specs.Running.{Running, started, HasRun}
use Rattle.vcm_state.specs.Held.{Held}
use Rattle.vcm_way.specs.Steps.{listed}
use Rattle.vcm_cause.specs.declared.watching.Progress.{Progress}
use Rattle.vcm_cause.specs.Behind.{Behind, behind_run}

-- what is known, as the definitions have it
abbrev pub seen : Progress → Behind
seen w = record { marks = listed w.marks; rounds = w.rounds; framed = w.framed }

-- a run of at most n steps has come to this state and ran so, and this is known behind it
pub record HasWatched (part : Workpiece) (c : Code) (n : ℕ) (world : Held) (next : ℕ) (ran : Ran) (progress : Progress) : Type 0 where
  pub new : Running
  pub has_run : HasRun n (started part c) new ran
  pub state : world.state ≡ new.state.world
  pub tables : world.tables ≡ c.tables
  pub next_is : next ≡ new.state.next
  pub behind : seen progress ≡ behind_run part c ran.done
