-- A run that passes, as it stands behind so many steps.
use Rattle.std.specs.Prelude.{◌≡◌, ℕ, ◌+◌, List, option_to_list, Option, Some, None, slice_get}
use Rattle.vcm_spec.specs.declared.stop.Stop.{Stop}
use Rattle.vcm_spec.specs.declared.stop.Stop.TheVariants.{Collision}
use Rattle.vcm_spec.specs.declared.words.MovePhase.{MovePhase}
use Rattle.vcm_spec.specs.declared.workpiece.Hit.{Hit}
use Rattle.vcm_spec.specs.Workpiece.{Workpiece}
use Rattle.vcm_spec.specs.World.{stopped}
use Rattle.vcm_code.specs.Code.{CodeStatement}
use Rattle.vcm_code.specs.declared.code.Code.{Code}
use Rattle.vcm_code.specs.CodeTable.{code_state}
use Rattle.vcm_machine.specs.Running.{Running, moved, WantsMemory}
use Rattle.vcm_steps.specs.declared.fault.Unfinished.{Unfinished}
use Rattle.vcm_steps.specs.declared.fault.Unfinished.TheVariants.{NoMemory, Memory, Write}
use Rattle.vcm_backtrace.specs.Sources.{Sourced}
use Rattle.vcm_way.specs.Steps.{TaskEnds}
use Rattle.vcm_way.specs.Tasks.{task_of}
use Rattle.vcm_contacts.specs.declared.contact.Contact.{Contact}
use Rattle.vcm_contacts.specs.declared.contact.Lead.{Lead}
use Rattle.vcm_contacts.specs.Leading.{lead}
use Rattle.vcm_contacts.specs.Noted.{Found, found_after, rounds_passed}
use Rattle.vcm_contacts.specs.Passing.{led, pass, passed_after}

-- behind n steps it is in this state, with these contacts, and loops have begun these rounds
pub record HasPassed (s : Option Sourced) (part : Workpiece) (c : Code) (n : ℕ) (m : Running) (found : List Found) (rounds : List ℕ) : Type 0 where
  pub part_is : m.part ≡ part
  pub code_is : m.code ≡ c
  pub state_is : m.state ≡ (passed_after part c n).state
  pub found_are : found ≡ found_after s part c n
  pub rounds_are : rounds ≡ rounds_passed part c n

-- one step more behind such a run
abbrev pub HasGoneOn : Option Sourced → Code → Running → List Found → List ℕ → Running → List Found → List ℕ → Type 0
HasGoneOn s c m found rounds new more later =
    (part : Workpiece) (n : ℕ) → HasPassed s part c n m found rounds → HasPassed s part c (n + 1) new more later

-- memory was refused behind so many steps: to its notes, or to a statement that makes an output line
abbrev pub IsRefusedHere : Running → ℕ → Unfinished → Type 0
IsRefusedHere m done NoMemory = Unit {0}
IsRefusedHere m done (Memory d) = (d ≡ done) × WantsMemory m
IsRefusedHere m done (Write d) = ⊥

-- a step has gone from the first to the second, with this contact or with none
pub record HasMet (old : Running) (met : Option Contact) (new : Running) : Type 0 where
  pub part_is : new.part ≡ old.part
  pub code_is : new.code ≡ old.code
  pub passed : pass old.part old.code old.state ≡ record { state = new.state; contacts = option_to_list met }

-- the contact of a statement that is next
abbrev pub contact_at : Running → MovePhase → Hit → CodeStatement → Contact
contact_at m phase hit s = record { phase = phase; hit = hit; number = m.state.next; line = s.line }

-- the machine stands at the statement that is next, and this is its motion's stop
pub record IsStopping (m : Running) (why : Stop) (s : CodeStatement) : Type 0 where
  pub stands : slice_get m.code.statements m.state.next ≡ Some s
  pub ends : TaskEnds m.part m.state.world.position m.state.world.settings (task_of m.part.bounds.home m.state.world s.op) (Some why)

-- with a lead carried out
abbrev pub led_on : Running → CodeStatement → Lead → Running
led_on m s l = moved m (led m.state s.line l)

-- with a stop at the statement that is next
abbrev pub halted : Running → CodeStatement → Stop → Running
halted m s why = moved m (code_state (stopped m.state.world why m.state.next s.line) m.state.next m.state.pairs)

-- behind the statement that is next, which has this stop: where that is a contact, the run goes on behind it
abbrev pub IsLed : Running → CodeStatement → Stop → Option Contact → Running → Type 0
IsLed old s (Collision phase hit) met new =
    (met ≡ Some (contact_at old phase hit s)) × (new ≡ led_on old s (lead old.part old.state.world s.op phase hit))
IsLed old s why met new = (met ≡ None) × (new ≡ halted old s why)
