-- A run that turns its head, and goes on behind its contacts.
use Rattle.std.specs.Prelude.{ℕ, zero, suc, ◌+◌, List, [], ◌++◌, slice_get, Option, Some, None}
use Rattle.vcm_spec.specs.Stepping.{unless_stopped}
use Rattle.vcm_spec.specs.Workpiece.{Workpiece}
use Rattle.vcm_code.specs.Code.{CodeStatement}
use Rattle.vcm_code.specs.declared.code.Code.{Code}
use Rattle.vcm_probe_set.specs.Probes.{Probe}
use Rattle.vcm_turning.specs.Choosing.{part_by}
use Rattle.vcm_turning.specs.Turning.{Turned, is_lost, put_behind, put_on, left, by_loss, unless_ended, opened}
use Rattle.vcm_contacts.specs.declared.contact.Contact.{Contact}
use Rattle.vcm_contacts.specs.Passing.{Passed, pass}

-- where a run stands, how many steps were taken, and the contacts behind which it went on, in their order
pub record SetPassed : Type 0 where
  pub turned : Turned
  pub steps : ℕ
  pub contacts : List Contact

-- no step is taken
abbrev pub rests : Turned → SetPassed
rests t = record { turned = t; steps = 0; contacts = [] }

-- behind a step of the code that was taken with a probe on, and went on behind its contact: the chosen probe is put on, unless it is on, or the step has stopped
abbrev pub turned_behind : List Probe → (variable : ℕ) → (on : Option ℕ) → Passed → SetPassed
turned_behind ps v on p = record { turned = put_on ps p.state on (put_behind ps v p.state on); steps = 1; contacts = p.contacts }

-- at the statement that is next, if there is one: where it moves and the chosen probe isn't on, the run ends before it; else it is taken beside the workpiece with
-- the tip of the probe that is on
abbrev pub turned_pass_at : Workpiece → List Probe → (variable : ℕ) → Code → Turned → Option CodeStatement → SetPassed
turned_pass_at part ps v c t None = rests t
turned_pass_at part ps v c t (Some s) =
    by_loss (is_lost part.bounds.home ps v t s.op) (rests (left v t s)) (turned_behind ps v t.on (pass (part_by part ps t.on) c t.state))

-- one step; a state that has ended or stopped doesn't change
abbrev pub turned_pass : Workpiece → List Probe → (variable : ℕ) → Code → Turned → SetPassed
turned_pass part ps v c t =
    unless_ended t.ended (rests t) (unless_stopped t.state.world.stop (rests t) (turned_pass_at part ps v c t (slice_get c.statements t.state.next)))

-- one step more
abbrev pub turned_pass_on : Workpiece → List Probe → (variable : ℕ) → Code → SetPassed → SetPassed
turned_pass_on part ps v c p =
    let q = turned_pass part ps v c p.turned in record { turned = q.turned; steps = p.steps + q.steps; contacts = p.contacts ++ q.contacts }

-- n steps from the start, with no probe on at first
abbrev pub set_passed_after : Workpiece → List Probe → (variable : ℕ) → Code → ℕ → SetPassed
set_passed_after part ps v c zero = rests (opened part c)
set_passed_after part ps v c (suc n) = turned_pass_on part ps v c (set_passed_after part ps v c n)
