-- A run while it is being kept.
use Rattle.std.specs.Prelude.{◌≡◌, ℕ, ◌≤◌, List, Option, Some, None}
use Rattle.vcm_spec.specs.declared.feature.Feature.{Feature}
use Rattle.vcm_spec.specs.declared.stop.StopPlace.{StopPlace}
use Rattle.vcm_spec.specs.Workpiece.{Workpiece}
use Rattle.vcm_code.specs.declared.code.Code.{Code}
use Rattle.vcm_machine.specs.Running.{Running, started, later}
use Rattle.vcm_margin.specs.inner.Kept.{IsKept}

-- so many steps are kept, and the machine stands behind them; all of them ended without a stop, or the stop that is kept is the machine's
pub record IsKeeping (part : Workpiece) (c : Code) (n : ℕ) (m : Running) (nexts : List ℕ) (points : List (Option Feature)) (running : ℕ)
    (stop : Option StopPlace) : Type 0 where
  pub kept : IsKept part c 0 n nexts points running stop
  pub is : m ≡ later n (started part c)
  pub within : running ≤ n
  pub whole : stop ≡ None → running ≡ n
  pub last : (p : StopPlace) → stop ≡ Some p → m.state.world.stop ≡ Some p
