-- The steps of a run that turns its head, one by one.
use Rattle.std.specs.Prelude.{ℕ, zero, suc, List, [], ◌∷◌, ◌++◌, slice_get, Option, Some, None}
use Rattle.vcm_num.specs.declared.point.Point.{Point}
use Rattle.vcm_spec.specs.Stepping.{unless_stopped}
use Rattle.vcm_spec.specs.Workpiece.{Workpiece}
use Rattle.vcm_code.specs.Code.{CodeStatement}
use Rattle.vcm_code.specs.declared.code.Code.{Code}
use Rattle.vcm_code.specs.CodeTable.{CodeState}
use Rattle.vcm_marks.specs.declared.mark.Mark.{Mark}
use Rattle.vcm_steps.specs.Passages.{Passage, passage}
use Rattle.vcm_way.specs.Ways.{step_marks}
use Rattle.vcm_probe_set.specs.Probes.{Probe}
use Rattle.vcm_turning.specs.Choosing.{part_by}
use Rattle.vcm_turning.specs.Turning.{Turned, is_lost, put_behind, stepped, taken, by_loss, unless_ended, turned_after}

-- one step: the passage of the code, with the state behind a turn; the place of the probe that was on, and of the one that was put on behind it, if one was;
-- and where the centre of the tip stood before that
pub record TurnedStep : Type 0 where
  pub passage : Passage
  pub on : Option ℕ
  pub put : Option ℕ
  pub stood : Point

-- the step of a statement, with which so many are taken, from a state through one of the code to another
abbrev pub step_between : List Probe → (variable count : ℕ) → Turned → CodeStatement → CodeState → Turned → TurnedStep
step_between ps v count t s m after = record {
  passage = passage count t.state.next s t.state.world after.state.world after.state.next;
  on = t.on;
  put = put_behind ps v m t.on;
  stood = m.world.position;
}

-- the step at the statement that is next, if there is one that is taken
abbrev pub steps_at : Workpiece → List Probe → (variable : ℕ) → Code → (count : ℕ) → Turned → Option CodeStatement → List TurnedStep
steps_at part ps v c count t None = []
steps_at part ps v c count t (Some s) =
    by_loss (is_lost part.bounds.home ps v t s.op) [] (step_between ps v count t s (stepped part ps c t) (taken part ps v c t) ∷ [])

-- the step from a state, with which so many are taken; where the run has ended or stopped there is none
abbrev pub steps_from : Workpiece → List Probe → (variable : ℕ) → Code → (count : ℕ) → Turned → List TurnedStep
steps_from part ps v c count t =
    unless_ended t.ended [] (unless_stopped t.state.world.stop [] (steps_at part ps v c count t (slice_get c.statements t.state.next)))

-- the steps of a run for at most n steps
abbrev pub turned_steps : Workpiece → List Probe → (variable : ℕ) → Code → ℕ → List TurnedStep
turned_steps part ps v c zero = []
turned_steps part ps v c (suc k) = turned_steps part ps v c k ++ steps_from part ps v c (suc k) (turned_after part ps v c k)

-- the marks that a step adds to the way, beside the workpiece with the tip that it was taken with
abbrev pub turned_marks : Workpiece → List Probe → TurnedStep → List Mark
turned_marks part ps s = step_marks (part_by part ps s.on) s.passage
