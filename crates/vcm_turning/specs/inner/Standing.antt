-- A machine that turns its head, as it stands behind so many steps.
use Rattle.std.specs.Prelude.{◌≡◌, ℕ, suc, List, length, Some}
use Rattle.vcm_machine.specs.Running.{WantsMemory}
use Rattle.vcm_turning.specs.declared.ended.Ended.{Ended}
use Rattle.vcm_turning.specs.declared.ended.Ended.TheVariants as end
use Rattle.vcm_turning.specs.Turning.{Turned, turn_step}
use Rattle.vcm_turning.specs.Steps.{TurnedStep, steps_from}
use Rattle.vcm_turning.specs.Machine.{Turner, turned_of, carrier}

-- its state one step later
abbrev pub later : Turner → Turned
later m = turn_step m.part m.probes m.variable m.code (turned_of m)

-- the step that it takes next, behind so many, if it takes one
abbrev pub next_step : (done : ℕ) → Turner → List TurnedStep
next_step done m = steps_from m.part m.probes m.variable m.code (suc done) (turned_of m)

-- the second machine is the first one step later, and that step is one
pub record IsLater (old new : Turner) : Type 0 where
  pub part_is : new.part ≡ old.part
  pub probes_are : new.probes ≡ old.probes
  pub variable_is : new.variable ≡ old.variable
  pub code_is : new.code ≡ old.code
  pub state_is : turned_of new ≡ later old
  pub one : (done : ℕ) → length (next_step done old) ≡ 1

-- the run ends before the next step, which isn't taken: without a probe, or for want of memory
abbrev pub EndsHere : Turner → Ended → Type 0
EndsHere m end.Count = ⊥
EndsHere m end.Stopped = ⊥
EndsHere m (end.Lost e) = (later m).ended ≡ Some e
EndsHere m end.NoMemory = WantsMemory (carrier m.part m.probes m.code (turned_of m))
