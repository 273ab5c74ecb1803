-- Statements about runs that go on behind contacts. Each is a clause of a law in src/laws.rt.
use Rattle.std.specs.Prelude.{◌≡◌, ℕ, List, [], ◌∷◌, map, Option, Some}
use Rattle.vcm_spec.specs.declared.stop.Stop.TheVariants.{Collision}
use Rattle.vcm_spec.specs.Workpiece.{Workpiece}
use Rattle.vcm_code.specs.declared.code.Code.{Code}
use Rattle.vcm_code.specs.CodeTable.{CodeState}
use Rattle.vcm_steps.specs.Passages.{state_after}
use Rattle.vcm_way.specs.Ways.{reason}
use Rattle.vcm_backtrace.specs.Sources.{Sourced}
use Rattle.vcm_contacts.specs.declared.contact.Contact.{Contact}
use Rattle.vcm_contacts.specs.Noted.{found_after}
use Rattle.vcm_contacts.specs.Passing.{passed_after}

-- without a contact the state is that of the run; else the run stops with the first contact
abbrev pub AgreesWith : CodeState → CodeState → List Contact → Type 0
AgreesWith run passed [] = run ≡ passed
AgreesWith run passed (c ∷ cs) = reason run.world.stop ≡ Some (Collision c.phase c.hit)

-- so it is behind any number of steps
abbrev pub FirstContactIsTheStop : Type 0
FirstContactIsTheStop =
    (part : Workpiece) (c : Code) (n : ℕ) → AgreesWith (state_after part c n) (passed_after part c n).state (passed_after part c n).contacts

-- those that are told are those behind which the run goes on
abbrev pub FoundAreTheContacts : Type 0
FoundAreTheContacts =
    (s : Option Sourced) (part : Workpiece) (c : Code) (n : ℕ) → map (λ f. f.contact) (found_after s part c n) ≡ (passed_after part c n).contacts
