-- The contacts of a run with several probes, how it ended, and why they aren't told.
use Rattle.std.specs.Prelude.{◌≡◌, ℕ, ◌+◌, ◌<◌, List, Option, Some, None}
use Rattle.vcm_spec.specs.Workpiece.{Workpiece}
use Rattle.vcm_code.specs.declared.code.Code.{Code}
use Rattle.vcm_machine.specs.Running.{WantsMemory}
use Rattle.vcm_steps.specs.declared.fault.Unfinished.{Unfinished}
use Rattle.vcm_steps.specs.declared.fault.Unfinished.TheVariants.{NoMemory, Memory, Write}
use Rattle.vcm_probe_set.specs.Probes.{Probe}
use Rattle.vcm_turning.specs.declared.ended.NoProbe.{NoProbe}
use Rattle.vcm_turning.specs.Machine.{carrier}
use Rattle.vcm_backtrace.specs.Sources.{Sourced}
use Rattle.vcm_contacts.specs.Noted.{Found}
use Rattle.vcm_set_contacts.specs.declared.found.Lost.{Lost}
use Rattle.vcm_set_contacts.specs.declared.found.PassedEnd.{PassedEnd}
use Rattle.vcm_set_contacts.specs.Noted.{set_found}
use Rattle.vcm_set_contacts.specs.Passing.{SetPassed, set_passed_after}

-- why a run has ended without a probe, if it has, and before which step: the one behind those that were taken
abbrev pub lost_behind : (steps : ℕ) → Option NoProbe → Option Lost
lost_behind steps (Some probe) = Some (record { probe = probe; step = steps + 1 })
lost_behind steps None = None

-- how a run ended that stands here: at its stop, if it came to one; without a probe, if it did
abbrev pub end_of : SetPassed → PassedEnd
end_of p = record { stop = p.turned.state.world.stop; lost = lost_behind p.steps p.turned.ended }

-- these are the contacts of a run for n steps that goes on behind each, of a code with this source, if it has one, and so it ended
pub record AreSetContacts (s : Option Sourced) (part : Workpiece) (ps : List Probe) (variable : ℕ) (c : Code) (n : ℕ) (found : List Found) (end : PassedEnd) : Type 0 where
  pub found_are : found ≡ set_found s part ps variable c n
  pub end_is : end ≡ end_of (set_passed_after part ps variable c n)

-- memory was refused for the contacts of such a run; or behind so many of its steps, to a statement that makes an output line and would not stop
abbrev pub AreNoSetContacts : Workpiece → List Probe → (variable : ℕ) → Code → ℕ → Unfinished → Type 0
AreNoSetContacts part ps v c n NoMemory = Unit {0}
AreNoSetContacts part ps v c n (Memory done) =
    (done < n) × ((set_passed_after part ps v c done).turned.ended ≡ None) × WantsMemory (carrier part ps c (set_passed_after part ps v c done).turned)
AreNoSetContacts part ps v c n (Write done) = ⊥
