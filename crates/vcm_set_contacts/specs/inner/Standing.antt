-- A machine that turns its head, behind a contact.
use Rattle.std.specs.Prelude.{◌≡◌, ℕ, ◌+◌, List, option_to_list, Option, Some, None}
use Rattle.vcm_spec.specs.declared.stop.Stop.{Stop}
use Rattle.vcm_spec.specs.declared.stop.Stop.TheVariants.{Collision}
use Rattle.vcm_spec.specs.declared.words.MovePhase.{MovePhase}
use Rattle.vcm_spec.specs.declared.workpiece.Hit.{Hit}
use Rattle.vcm_spec.specs.Workpiece.{Workpiece}
use Rattle.vcm_code.specs.Code.{CodeStatement}
use Rattle.vcm_code.specs.declared.code.Code.{Code}
use Rattle.vcm_code.specs.CodeTable.{CodeState}
use Rattle.vcm_machine.specs.Running.{WantsMemory}
use Rattle.vcm_steps.specs.declared.fault.Unfinished.{Unfinished}
use Rattle.vcm_steps.specs.declared.fault.Unfinished.TheVariants.{NoMemory, Memory, Write}
use Rattle.vcm_probe_set.specs.Probes.{Probe}
use Rattle.vcm_turning.specs.Choosing.{part_by}
use Rattle.vcm_turning.specs.Turning.{put_behind}
use Rattle.vcm_turning.specs.Machine.{Turner, turned_of, carrier, StandsAt, halted, with_probe, stepped_of}
use Rattle.vcm_contacts.specs.declared.contact.Contact.{Contact}
use Rattle.vcm_contacts.specs.declared.contact.Lead.{Lead}
use Rattle.vcm_backtrace.specs.Sources.{Sourced}
use Rattle.vcm_contacts.specs.Leading.{lead}
use Rattle.vcm_contacts.specs.Noted.{Found, rounds_on, found_on}
use Rattle.vcm_contacts.specs.Passing.{led, pass}
use Rattle.vcm_set_contacts.specs.declared.found.Lost.{Lost}
use Rattle.vcm_set_contacts.specs.Noted.{set_rounds, set_found}
use Rattle.vcm_set_contacts.specs.Passing.{rests, turned_pass, set_passed_after}

-- the contact of a statement that is next
abbrev pub contact_at : Turner → MovePhase → Hit → CodeStatement → Contact
contact_at m phase hit s = record { phase = phase; hit = hit; number = m.state.next; line = s.line }

-- the workpiece with the tip of the probe that is on
abbrev pub part_of : Turner → Workpiece
part_of m = part_by m.part m.probes m.on

-- how a statement that is next leads on behind its contact
abbrev pub lead_at : Turner → CodeStatement → MovePhase → Hit → Lead
lead_at m s phase hit = lead (part_of m) m.state.world s.op phase hit

-- in another state
abbrev pub moved : Turner → CodeState → Turner
moved m p = record m { state = p }

-- with a lead carried out
abbrev pub led_on : Turner → CodeStatement → Lead → Turner
led_on m s l = moved m (led m.state s.line l)

-- the machine stands at the statement that is next, whose step has this stop
pub record IsStopping (m : Turner) (why : Stop) (s : CodeStatement) : Type 0 where
  pub stands : StandsAt m s
  pub stops : stepped_of m ≡ (halted m s why).state

-- behind the statement that is next, which has this stop: where that is a contact, the run goes on behind it
abbrev pub IsLed : Turner → CodeStatement → Stop → Option Contact → Turner → Type 0
IsLed old s (Collision phase hit) met new = (met ≡ Some (contact_at old phase hit s)) × (new ≡ led_on old s (lead_at old s phase hit))
IsLed old s why met new = (met ≡ None) × (new ≡ halted old s why)

-- the step of the code has gone from the first to the second, with this contact or with none
pub record HasMet (old : Turner) (met : Option Contact) (new : Turner) : Type 0 where
  pub new_is : new ≡ moved old new.state
  pub passed : pass (part_of old) old.code old.state ≡ record { state = new.state; contacts = option_to_list met }

-- and then the chosen probe was put on
pub record HasStepped (old : Turner) (met : Option Contact) (new : Turner) : Type 0 where
  pub between : Turner
  pub has_met : HasMet old met between
  pub new_is : new ≡ with_probe between (put_behind between.probes between.variable between.state between.on)

-- a step that was taken has gone from the first to the second, with these contacts
pub record HasPassedOne (old : Turner) (contacts : List Contact) (new : Turner) : Type 0 where
  pub part_is : new.part ≡ old.part
  pub probes_are : new.probes ≡ old.probes
  pub variable_is : new.variable ≡ old.variable
  pub code_is : new.code ≡ old.code
  pub passed : turned_pass old.part old.probes old.variable old.code (turned_of old) ≡ record { turned = turned_of new; steps = 1; contacts = contacts }

-- the same, where loops had begun these rounds and then those, and this was found
pub record HasNoted (s : Option Sourced) (old : Turner) (rounds : List ℕ) (found : List Found) (new : Turner) (later : List ℕ) : Type 0 where
  pub contacts : List Contact
  pub passed : HasPassedOne old contacts new
  pub rounds_are : later ≡ rounds_on old.code rounds old.state new.state
  pub found_are : found ≡ found_on s old.code new.state later contacts

-- the run ends before the next step without a probe, behind so many
pub record IsLostHere (m : Turner) (done : ℕ) (l : Lost) : Type 0 where
  pub step_is : l.step ≡ done + 1
  pub passed : turned_pass m.part m.probes m.variable m.code (turned_of m) ≡ rests (record { state = m.state; on = m.on; ended = Some l.probe })

-- memory was refused in the next step, behind so many
abbrev pub IsRefusedHere : Turner → (done : ℕ) → Unfinished → Type 0
IsRefusedHere m done NoMemory = Unit {0}
IsRefusedHere m done (Memory k) = (k ≡ done) × WantsMemory (carrier m.part m.probes m.code (turned_of m))
IsRefusedHere m done (Write k) = ⊥

-- behind n steps a machine stands here, has these contacts, and loops have begun these rounds
pub record HasSetPassed (s : Option Sourced) (part : Workpiece) (ps : List Probe) (variable : ℕ) (c : Code) (n : ℕ) (m : Turner) (found : List Found) (rounds : List ℕ) : Type 0 where
  pub part_is : m.part ≡ part
  pub probes_are : m.probes ≡ ps
  pub variable_is : m.variable ≡ variable
  pub code_is : m.code ≡ c
  pub turned_is : (set_passed_after part ps variable c n).turned ≡ turned_of m
  pub steps_are : (set_passed_after part ps variable c n).steps ≡ n
  pub found_are : found ≡ set_found s part ps variable c n
  pub rounds_are : rounds ≡ set_rounds part ps variable c n
