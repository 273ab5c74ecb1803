-- A run with its way.
use Rattle.std.specs.Prelude.{◌≡◌, ℕ}
use Rattle.vcm_spec.specs.Workpiece.{Workpiece}
use Rattle.vcm_code.specs.declared.code.Code.{Code}
use Rattle.vcm_machine.specs.declared.ran.Ran.{Ran}
use Rattle.vcm_machine.specs.Running.{Running, started, HasRun}
use Rattle.vcm_state.specs.Held.{Held}
use Rattle.vcm_way.specs.Ways.{Kept, whole_way, kept_of}

-- what a way keeps of the way of a code, after so many steps
abbrev pub way_after : Workpiece → Code → ℕ → Kept
way_after part c n = kept_of (whole_way part c n)

-- a run of at most n steps has come to this state, ran so, and has this way
pub record HasFollowed (part : Workpiece) (c : Code) (n : ℕ) (world : Held) (ran : Ran) (way : Kept) : Type 0 where
  pub new : Running
  pub has_run : HasRun n (started part c) new ran
  pub state : world.state ≡ new.state.world
  pub tables : world.tables ≡ c.tables
  pub kept : way ≡ way_after part c ran.done
