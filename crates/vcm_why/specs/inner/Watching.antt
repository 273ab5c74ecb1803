-- A run that was watched, and what was written of it.
use Rattle.std.specs.Prelude.{◌≡◌, ℕ, List, Option}
use Rattle.std.specs.Io.KnownBytes.{Appends}
use Rattle.vcm_num.specs.Written.{AppendsFront}
use Rattle.vcm_spec.specs.declared.stop.StopPlace.{StopPlace}
use Rattle.vcm_spec.specs.Workpiece.{Workpiece}
use Rattle.vcm_code.specs.declared.code.Code.{Code}
use Rattle.vcm_machine.specs.declared.ran.End.TheVariants.{NoMemory}
use Rattle.vcm_cause.specs.declared.watching.Watched.{Watched}
use Rattle.vcm_cause.specs.Watched.{seen, HasWatched}
use Rattle.vcm_steps.specs.declared.fault.Unfinished.{Unfinished}
use Rattle.vcm_steps.specs.declared.fault.Unfinished.TheVariants as faults
use Rattle.vcm_backtrace.specs.Sources.{Sourced}
use Rattle.vcm_why.specs.Reasons.{why_lines}
use Rattle.vcm_why.specs.Telling.{IsHaltedAfter}

-- the run was watched to its end
pub record IsAmple (part : Workpiece) (c : Code) (n : ℕ) (w : Watched) : Type 0 where
  pub watched : HasWatched part c n w.world w.next w.ran w.progress
  pub ample : w.ran.end ≡ NoMemory → ⊥

-- memory was refused before it or in it
abbrev pub IsHalted : Workpiece → Code → ℕ → Unfinished → Type 0
IsHalted part c n faults.NoMemory = Unit {0}
IsHalted part c n (faults.Memory done) = IsHaltedAfter part c n done
IsHalted part c n f = ⊥

-- the lines of a run that was watched
abbrev pub lines_of : List (List ℕ) → Option Sourced → Workpiece → Code → Watched → List ℕ
lines_of names t part c w = why_lines names t part c.statements w.world w.next (seen w.progress) w.ran.done

-- they were written
pub record IsTold (names : List (List ℕ)) (t : Option Sourced) (part : Workpiece) (c : Code) (w : Watched) (stop : Option StopPlace) (old new : Option (List ℕ)) : Type 0 where
  pub stop_is : stop ≡ w.world.state.stop
  pub written : Appends old new (lines_of names t part c w)

-- a write failed
abbrev pub IsNotTold : List (List ℕ) → Option Sourced → Workpiece → Code → Watched → Unfinished → Option (List ℕ) → Option (List ℕ) → Type 0
IsNotTold names t part c w (faults.Write done) old new = AppendsFront old new (lines_of names t part c w)
IsNotTold names t part c w f old new = ⊥
