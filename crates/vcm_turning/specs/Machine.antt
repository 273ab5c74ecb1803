-- A machine that turns its head, and its runs.
use Rattle.std.specs.Prelude.{◌≡◌, ℕ, suc, ◌+◌, ◌<◌, ◌≤◌, ℤ, pos, negsuc, ◌≤ℤ◌, ◌+ℤ◌, true, ◌&&◌, List, length, slice_get, slice_set, Option, Some, None}
use Rattle.vcm_num.specs.declared.point.Point.{Point}
use Rattle.vcm_num.specs.Point.{coordinate}
use Rattle.vcm_spec.specs.declared.feature.Feature.{Feature}
use Rattle.vcm_spec.specs.declared.stop.Stop.{Stop}
use Rattle.vcm_spec.specs.declared.stop.StopPlace.{StopPlace}
use Rattle.vcm_spec.specs.Setup.{setup_of}
use Rattle.vcm_spec.specs.Workpiece.{Workpiece}
use Rattle.vcm_spec.specs.World.{stopped}
use Rattle.vcm_code.specs.Code.{CodeStatement}
use Rattle.vcm_code.specs.declared.code.Code.{Code}
use Rattle.vcm_code.specs.CodeTable.{CodeState, code_state, start}
use Rattle.vcm_machine.specs.Running.{Running, WantsMemory}
use Rattle.vcm_probe_set.specs.Probes.{Probe}
use Rattle.vcm_probe_set.specs.Parts.{is_turning_limit}
use Rattle.vcm_turning.specs.declared.ended.Ended.{Ended}
use Rattle.vcm_turning.specs.declared.ended.Ended.TheVariants as end
use Rattle.vcm_turning.specs.declared.ended.Ran.{Ran}
use Rattle.vcm_turning.specs.declared.turn.Turn.{Turn}
use Rattle.vcm_turning.specs.Choosing.{probe_on, place_with, part_by}
use Rattle.vcm_turning.specs.Turning.{Turned, turned, put_behind, stepped, taken, turned_after}
use Rattle.vcm_turning.specs.Steps.{turned_steps}

-- a machine: the workpiece of the part file, the probes, the place of the variable that chooses one, the code, and where it stands
pub record Turner : Type 0 where
  pub part : Workpiece
  pub probes : List Probe
  pub variable : ℕ
  pub code : Code
  pub state : CodeState
  pub on : Option ℕ

-- its state
abbrev pub turned_of : Turner → Turned
turned_of m = turned m.state m.on

-- the machine that carries out the next statement, beside the workpiece with the tip of the probe that is on
abbrev pub carrier : Workpiece → List Probe → Code → Turned → Running
carrier part ps c t = record { part = part_by part ps t.on; code = c; state = t.state }

-- a machine at the start
abbrev pub turner : Workpiece → List Probe → (variable : ℕ) → Code → Turner
turner part ps v c = record { part = part; probes = ps; variable = v; code = c; state = start (setup_of part c.tables); on = None }

-- the statement is the one that is next
abbrev pub StandsAt : Turner → CodeStatement → Type 0
StandsAt m s = slice_get m.code.statements m.state.next ≡ Some s

-- the limits of a workpiece are at most 980 metres from 0
abbrev pub HasTurningLimits : Workpiece → Type 0
HasTurningLimits part = (is_turning_limit part.bounds.low && is_turning_limit part.bounds.high) ≡ true

-- at most so far from 0
abbrev pub IsWithinOf : (most : ℕ) → ℤ → Type 0
IsWithinOf most z = (negsuc most ≤ℤ z) × (z ≤ℤ pos (suc most))

-- the pivot is at most 990 metres from 0 on each axis, and the centre of the tip 980 where no probe is on
abbrev pub HangsNear : Option Probe → Point → Type 0
HangsNear None at = (k : ℕ) → k < 3 → IsWithinOf 979999999 (coordinate at k)
HangsNear (Some p) at = (k : ℕ) → k < 3 → IsWithinOf 989999999 (coordinate at k +ℤ coordinate p.pivot k)

-- with a stop at the statement that is next
abbrev pub halted : Turner → CodeStatement → Stop → Turner
halted m s why = record m { state = code_state (stopped m.state.world why m.state.next s.line) m.state.next m.state.pairs }

-- with the probe of this place put on, if there is one
abbrev pub with_probe : Turner → Option ℕ → Turner
with_probe m None = m
with_probe m (Some i) = record m {
  state = code_state (record (m.state.world) { position = place_with m.state.world.position (probe_on m.probes m.on) (slice_get m.probes i) }) m.state.next m.state.pairs;
  on = Some i;
}

-- with the centre of the tip at a point
abbrev pub placed : Turner → Point → Turner
placed m at = record m { state = code_state (record (m.state.world) { position = at }) m.state.next m.state.pairs }

-- with the feature of this index measured so
abbrev pub with_actual : Turner → ℕ → Feature → Turner
with_actual m i f = record m { state = code_state (record (m.state.world) { actual = slice_set m.state.world.actual i (Some f) }) m.state.next m.state.pairs }

-- with the statement behind the next one as the next
abbrev pub skipped : Turner → Turner
skipped m = record m { state = code_state m.state.world (m.state.next + 1) m.state.pairs }

-- the state behind the step of the code
abbrev pub stepped_of : Turner → CodeState
stepped_of m = stepped m.part m.probes m.code (turned_of m)

-- the next statement was carried out from the first to the second, and went on; or it has this stop, and the machine is as it was
abbrev pub HasGone : Turner → Option Stop → Turner → Type 0
HasGone old None new = (new ≡ record old { state = stepped_of old }) × (new.state.world.stop ≡ None)
HasGone old (Some why) new = (new ≡ old) × (s : CodeStatement) × StandsAt old s × (stepped_of old ≡ (halted old s why).state)

-- a step that was taken has gone from the first to the second
pub record HasTurned (old : Turner) (turn : Turn) (new : Turner) : Type 0 where
  pub part_is : new.part ≡ old.part
  pub probes_are : new.probes ≡ old.probes
  pub variable_is : new.variable ≡ old.variable
  pub code_is : new.code ≡ old.code
  pub taken : taken old.part old.probes old.variable old.code (turned_of old) ≡ turned_of new
  pub stood : turn.stood ≡ (stepped old.part old.probes old.code (turned_of old)).world.position
  pub put : turn.put ≡ put_behind old.probes old.variable (stepped old.part old.probes old.code (turned_of old)) old.on

-- how a run ended that was asked for n steps, behind so many: it has stopped; or all were taken, and it has not; or it ended without a probe before the next
-- one; or memory was refused to the next one, which makes an output line and would not stop
abbrev pub TurningEnded : ℕ → Workpiece → List Probe → (variable : ℕ) → Code → (done : ℕ) → Ended → Type 0
TurningEnded n part ps v c done end.Stopped = (p : StopPlace) × ((turned_after part ps v c done).state.world.stop ≡ Some p)
TurningEnded n part ps v c done end.Count = (done ≡ n) × ((turned_after part ps v c done).state.world.stop ≡ None)
TurningEnded n part ps v c done (end.Lost e) = (done < n) × ((turned_after part ps v c (suc done)).ended ≡ Some e)
TurningEnded n part ps v c done end.NoMemory = (done < n) × WantsMemory (carrier part ps c (turned_after part ps v c done))

-- a run for at most n steps has come to this machine, and each of the steps that were done was one
pub record HasRunTurned (n : ℕ) (part : Workpiece) (ps : List Probe) (variable : ℕ) (c : Code) (new : Turner) (ran : Ran) : Type 0 where
  pub probes_are : new.probes ≡ ps
  pub code_is : new.code ≡ c
  pub reached : turned_of new ≡ turned_after part ps variable c ran.done
  pub few : ran.done ≤ n
  pub each : length (turned_steps part ps variable c ran.done) ≡ ran.done
  pub ended : TurningEnded n part ps variable c ran.done ran.end
