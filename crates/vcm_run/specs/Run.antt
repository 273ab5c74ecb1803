-- What a run of so many steps shows.
use Rattle.std.specs.Prelude.{◌≡◌, ℕ, ◌<◌, IsTrue, Some, None}
use Rattle.vcm_spec.specs.declared.stop.StopPlace.{StopPlace}
use Rattle.vcm_spec.specs.Setup.{Setup}
use Rattle.vcm_spec.specs.World.{World}
use Rattle.vcm_spec.specs.Program.{Block}
use Rattle.vcm_spec.specs.Table.{State, front, next_number, step, steps, effective, opening}
use Rattle.vcm_spec.specs.Printing.{takes_memory, next_node}
use Rattle.vcm_machine.specs.declared.ran.End.{End}
use Rattle.vcm_machine.specs.declared.ran.End.TheVariants.{Count, Stopped, NoMemory}
use Rattle.vcm_machine.specs.declared.ran.Ran.{Ran}

-- how a run ended, asked for n steps from the state `start`, at the state `reached` after `done` steps: it has stopped, so that these are
-- the effective steps; or all n were taken, and it has not; or memory was refused to a statement that makes an output line and would not
-- stop
abbrev pub Ended : Setup → ℕ → State → State → ℕ → End → Type 0
Ended setup n start reached done Stopped = (done ≡ effective setup n start) × ((p : StopPlace) × (reached.world.stop ≡ Some p))
Ended setup n start reached done Count = (done ≡ n) × (n ≡ effective setup n start) × (reached.world.stop ≡ None)
Ended setup n start reached done NoMemory =
    (done < n) × (done ≡ effective setup done start) × (reached.world.stop ≡ None)
    × IsTrue (takes_memory (next_node (front reached.entries))) × ((step setup reached).world.stop ≡ None)

-- the state and the next number are those of the statement table after the steps that were done
pub record IsRun (setup : Setup) (program : Block) (n : ℕ) (world : World) (next : ℕ) (ran : Ran) : Type 0 where
  pub world_is : world ≡ (steps setup ran.done (opening setup program)).world
  pub next_is : next ≡ next_number (steps setup ran.done (opening setup program)).entries
  pub ended : Ended setup n (opening setup program) (steps setup ran.done (opening setup program)) ran.done ran.end
