-- Runs that turn the head, followed step by step.
use Rattle.std.specs.Prelude.{◌≡◌, ℕ, suc, ◌<◌, false, List, [], ◌∷◌, ◌++◌, length, Option, None, IfSome, IsTrue}
use Rattle.vcm_num.specs.Point.{is_near}
use Rattle.vcm_spec.specs.Setup.{Tables}
use Rattle.vcm_spec.specs.Workpiece.{Workpiece}
use Rattle.vcm_spec.specs.World.{World}
use Rattle.vcm_code.specs.Code.{CodeStatement}
use Rattle.vcm_code.specs.declared.code.Code.{Code}
use Rattle.vcm_steps.specs.Passages.{passage}
use Rattle.vcm_probe_set.specs.Probes.{Probe}
use Rattle.vcm_turning.specs.declared.turn.Turn.{Turn}
use Rattle.vcm_turning.specs.Choosing.{probe_on}
use Rattle.vcm_turning.specs.Machine.{Turner, turned_of, StandsAt, HangsNear, HasTurned}
use Rattle.vcm_turning.specs.Steps.{TurnedStep, turned_steps}
use Rattle.vcm_turning.specs.Turning.{is_lost}

-- the statement comes next in this state, with this probe on, which is one of the machine's, and by these tables, for a machine that has not stopped and is not
-- lost there
pub record IsNextTurned (fits : Workpiece → List Probe → Code → Type 0) (tables : Tables) (w : World) (on : Option ℕ) (s : CodeStatement) : Type 0 where
  pub machine : Turner
  pub fit : fits machine.part machine.probes machine.code
  pub stands : StandsAt machine s
  pub running : machine.state.world.stop ≡ None
  pub held : is_lost machine.part.bounds.home machine.probes machine.variable (turned_of machine) s.op ≡ false
  pub near : IsTrue (is_near machine.state.world.position)
  pub world_is : machine.state.world ≡ w
  pub on_is : machine.on ≡ on
  pub there : IfSome machine.on (λ i. i < length machine.probes)
  pub tables_are : machine.code.tables ≡ tables

-- the statement came next in a state of which this is known, and this is the state behind it and behind the turn, in which the machine hangs near
pub record WasNextTurned (fits : Workpiece → List Probe → Code → Type 0) (known : World → Type 0) (on : Option ℕ) (s : CodeStatement) (turn : Turn) (after : World)
    : Type 0 where
  pub before : World
  pub tables : Tables
  pub is_next : IsNextTurned fits tables before on s
  pub known_before : known before
  pub new : Turner
  pub turned : HasTurned is_next.machine turn new
  pub hangs : HangsNear (probe_on new.probes new.on) new.state.world.position
  pub after_is : new.state.world ≡ after

-- a step as it is told
abbrev pub told_step : (count number : ℕ) → CodeStatement → (before after : World) → (next : ℕ) → (on : Option ℕ) → Turn → TurnedStep
told_step count number s before after next on turn =
    record { passage = passage count number s before after next; on = on; put = turn.put; stood = turn.stood }

-- a follower broke off a run for at most n steps at the last of these steps, behind those before it
pub record IsBrokenOff (n : ℕ) (part : Workpiece) (ps : List Probe) (variable : ℕ) (c : Code) (broke : List TurnedStep → TurnedStep → Type 0) : Type 0 where
  pub done : ℕ
  pub last : TurnedStep
  pub few : done < n
  pub count_is : last.passage.count ≡ suc done
  pub steps_are : turned_steps part ps variable c (suc done) ≡ turned_steps part ps variable c done ++ last ∷ []
  pub broken : broke (turned_steps part ps variable c done) last
