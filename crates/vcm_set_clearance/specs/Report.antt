-- What a run with several probes came to.
use Rattle.std.specs.Prelude.{◌≡◌, ◌≤◌, ℕ, List, length, Some, None}
use Rattle.vcm_spec.specs.Workpiece.{Workpiece}
use Rattle.vcm_code.specs.declared.code.Code.{Code}
use Rattle.vcm_probe_set.specs.Parts.{why_unfit}
use Rattle.vcm_probe_set.specs.Probes.{Probe, Probes}
use Rattle.vcm_turning.specs.Choosing.{chooser}
use Rattle.vcm_turning.specs.Turning.{turned_after}
use Rattle.vcm_turning.specs.Machine.{TurningEnded}
use Rattle.vcm_set_clearance.specs.declared.gathering.SetRun.{SetRun}
use Rattle.vcm_set_clearance.specs.declared.parts.SetFault.{SetFault}
use Rattle.vcm_set_clearance.specs.declared.parts.SetFault.TheVariants.{NoMemory, Unfit, NoVariable}
use Rattle.vcm_set_clearance.specs.Events.{events_of, AreEvents}

-- a run for at most n steps did so many and ended so, what happened in them is known, and so is the stop that it came to, if it did
pub record IsSetRun (part : Workpiece) (ps : List Probe) (variable : ℕ) (c : Code) (n : ℕ) (r : SetRun) : Type 0 where
  pub events : AreEvents r.events.items (events_of part ps variable c r.done)
  pub ended : TurningEnded n part ps variable c r.done r.end
  pub stop : r.stop ≡ (turned_after part ps variable c r.done).state.world.stop

-- it is that with the variable that the probes name, which the code has
pub record IsDone (part : Workpiece) (set : Probes) (c : Code) (n : ℕ) (r : SetRun) : Type 0 where
  pub variable : ℕ
  pub chosen : chooser set.variable c.tables.variables ≡ Some variable
  pub is : IsSetRun part set.probes variable c n r

-- why none was done: memory was refused; or the probes can't be tried beside the workpiece; or they can, and the code has no variable that they name
abbrev pub IsNotDone : Workpiece → Probes → Code → SetFault → Type 0
IsNotDone part set c NoMemory = Unit {0}
IsNotDone part set c (Unfit u) = why_unfit part set.probes ≡ Some u
IsNotDone part set c NoVariable = (why_unfit part set.probes ≡ None) × (chooser set.variable c.tables.variables ≡ None)

-- why none was done with the variable of this place: memory was refused; or the probes can't be tried beside the workpiece; or they can, and the code has no such place
abbrev pub IsNotDoneAt : Workpiece → Probes → (variable : ℕ) → Code → SetFault → Type 0
IsNotDoneAt part set v c NoMemory = Unit {0}
IsNotDoneAt part set v c (Unfit u) = why_unfit part set.probes ≡ Some u
IsNotDoneAt part set v c NoVariable = (why_unfit part set.probes ≡ None) × (length c.tables.variables ≤ v)
