-- The machine that turns its head between steps.
use Rattle.std.specs.Prelude.{ℕ, zero, suc, Bool, true, false, ◌&&◌, not, List, slice_get, Option, Some, None}
use Rattle.vcm_num.specs.declared.point.Point.{Point}
use Rattle.vcm_spec.specs.Setup.{setup_of}
use Rattle.vcm_spec.specs.Stepping.{unless_stopped}
use Rattle.vcm_spec.specs.Workpiece.{Workpiece}
use Rattle.vcm_code.specs.Code.{Op, CodeStatement}
use Rattle.vcm_code.specs.declared.code.Code.{Code}
use Rattle.vcm_code.specs.CodeTable.{CodeState, code_state, code_step, start}
use Rattle.vcm_way.specs.declared.task.Task.{Task}
use Rattle.vcm_way.specs.declared.task.Task.TheVariants.{Nowhere}
use Rattle.vcm_way.specs.Tasks.{task_of}
use Rattle.vcm_probe_set.specs.Probes.{Probe}
use Rattle.vcm_turning.specs.declared.ended.NoProbe.{NoProbe}
use Rattle.vcm_turning.specs.Choosing.{value_of, probe_on, is_held, put_at, place_with, part_by}

-- a state: that of the code, the place of the probe that is on, if one is, and why the run has ended without a probe, if it has
pub record Turned : Type 0 where
  pub state : CodeState
  pub on : Option ℕ
  pub ended : Option NoProbe

-- one that has not ended so
abbrev pub turned : CodeState → Option ℕ → Turned
turned m on = record { state = m; on = on; ended = None }

-- whether a task moves the probe
abbrev pub is_motion : Task → Bool
is_motion Nowhere = false
is_motion _ = true

-- whether a statement is one that would move, with a probe on that isn't the chosen one
abbrev pub is_lost : Point → List Probe → (variable : ℕ) → Turned → Op → Bool
is_lost home ps v t op = is_motion (task_of home t.state.world op) && not (is_held ps t.on (value_of t.state.world v))

-- the place of the probe that is put on behind a step which came to this state: of the chosen one, unless it is on, or the step has stopped
abbrev pub put_behind : List Probe → (variable : ℕ) → CodeState → (on : Option ℕ) → Option ℕ
put_behind ps v m on = unless_stopped m.world.stop None (put_at ps on (value_of m.world v))

-- with a probe put on, if one is
abbrev pub put_on : List Probe → CodeState → (on put : Option ℕ) → Turned
put_on ps m on None = turned m on
put_on ps m on (Some i) =
    turned (code_state (record (m.world) { position = place_with m.world.position (probe_on ps on) (slice_get ps i) }) m.next m.pairs) (Some i)

-- behind the step of the code, which is taken beside the workpiece with the tip of the probe that is on
abbrev pub stepped : Workpiece → List Probe → Code → Turned → CodeState
stepped part ps c t = code_step (setup_of (part_by part ps t.on) c.tables) c.statements t.state

-- a step that is taken
abbrev pub taken : Workpiece → List Probe → (variable : ℕ) → Code → Turned → Turned
taken part ps v c t = put_on ps (stepped part ps c t) t.on (put_behind ps v (stepped part ps c t) t.on)

-- a step that isn't: the run ends before it
abbrev pub left : (variable : ℕ) → Turned → CodeStatement → Turned
left v t s = record { state = t.state; on = t.on; ended = Some (record { value = value_of t.state.world v; number = t.state.next; line = s.line }) }

-- the first where the statement is lost, else the second
abbrev pub by_loss : {A : Type 0} → Bool → A → A → A
by_loss true lost other = lost
by_loss false lost other = other

-- at the statement that is next, if there is one
abbrev pub turn_at : Workpiece → List Probe → (variable : ℕ) → Code → Turned → Option CodeStatement → Turned
turn_at part ps v c t None = t
turn_at part ps v c t (Some s) = by_loss (is_lost part.bounds.home ps v t s.op) (left v t s) (taken part ps v c t)

-- what stays where the run has ended without a probe, and what comes where it hasn't
abbrev pub unless_ended : {A : Type 0} → Option NoProbe → A → A → A
unless_ended (Some e) old new = old
unless_ended None old new = new

-- one step; a state that has ended or stopped doesn't change
abbrev pub turn_step : Workpiece → List Probe → (variable : ℕ) → Code → Turned → Turned
turn_step part ps v c t =
    unless_ended t.ended t (unless_stopped t.state.world.stop t (turn_at part ps v c t (slice_get c.statements t.state.next)))

-- the start: no probe is on
abbrev pub opened : Workpiece → Code → Turned
opened part c = turned (start (setup_of part c.tables)) None

-- n steps from the start
abbrev pub turned_after : Workpiece → List Probe → (variable : ℕ) → Code → ℕ → Turned
turned_after part ps v c zero = opened part c
turned_after part ps v c (suc n) = turn_step part ps v c (turned_after part ps v c n)
