-- A run with the own tip and a machine with another one that are stepped together.
use Rattle.std.specs.Prelude.{◌≡◌, ℕ}
use Rattle.vcm_spec.specs.Workpiece.{Workpiece}
use Rattle.vcm_code.specs.declared.code.Code.{Code}
use Rattle.vcm_machine.specs.Running.{Running, started, later}
use Rattle.vcm_margin.specs.Alike.{reached, GoAlike}

-- both are so many steps behind the start, the first as At says, and have gone alike
pub record HaveGone (part other : Workpiece) (c : Code) (n : ℕ) (At : ℕ → Type 0) (two : Running) : Type 0 where
  pub first : At n
  pub second : two ≡ later n (started other c)
  pub next : two.state.next ≡ (reached part c n).next
  pub alike : GoAlike part other c n
