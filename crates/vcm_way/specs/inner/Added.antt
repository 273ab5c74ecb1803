-- What is kept of a way.
use Rattle.std.specs.Prelude.{◌≡◌, ℕ, List, [], ◌++◌}
use Rattle.vcm_spec.specs.Workpiece.{Workpiece}
use Rattle.vcm_code.specs.declared.code.Code.{Code}
use Rattle.vcm_machine.specs.declared.ran.Ran.{Ran}
use Rattle.vcm_machine.specs.Running.{Running, started, HasRun}
use Rattle.vcm_state.specs.Held.{Held}
use Rattle.vcm_marks.specs.declared.mark.PlacedMark.{PlacedMark}
use Rattle.vcm_way.specs.Ways.{Kept, whole_way}
use Rattle.vcm_way.specs.Keeping.{kept, StandsFor}

-- with more marks behind them
abbrev pub more : Kept → List PlacedMark → Kept
more k marks = kept (k.marks ++ marks) k.left_out

-- what stood for no step stands for this way now
abbrev pub Keeps : Kept → Kept → List PlacedMark → Type 0
Keeps from to whole = StandsFor from [] → StandsFor to whole

-- a run of at most n steps has come to this state and ran so, and its way is kept
pub record HasKept (part : Workpiece) (c : Code) (n : ℕ) (world : Held) (ran : Ran) (from to : Kept) : Type 0 where
  pub new : Running
  pub has_run : HasRun n (started part c) new ran
  pub state : world.state ≡ new.state.world
  pub tables : world.tables ≡ c.tables
  pub keeps : Keeps from to (whole_way part c ran.done)
