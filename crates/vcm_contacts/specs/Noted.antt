-- Contacts as they are found in a run that goes on behind each: each with the backtrace of its statement.
use Rattle.std.specs.Prelude.{◌≡◌, ℕ, zero, suc, ℤ, List, [], ◌∷◌, ◌++◌, map, replicate, slice_get, Option, Some, None}
use Rattle.vcm_spec.specs.declared.stop.StopPlace.{StopPlace}
use Rattle.vcm_spec.specs.Setup.{Tables}
use Rattle.vcm_spec.specs.Workpiece.{Workpiece}
use Rattle.vcm_code.specs.Code.{CodeStatement}
use Rattle.vcm_code.specs.declared.code.Code.{Code}
use Rattle.vcm_code.specs.CodeTable.{CodeState}
use Rattle.vcm_cause.specs.Behind.{rounds_behind}
use Rattle.vcm_backtrace.specs.Sources.{Sourced}
use Rattle.vcm_backtrace.specs.Backtrace.{backtrace_lines}
use Rattle.vcm_contacts.specs.declared.contact.Contact.{Contact}
use Rattle.vcm_contacts.specs.declared.contact.FoundContact.{FoundContact}
use Rattle.vcm_contacts.specs.Passing.{pass, passed_after}

-- a contact, and the backtrace of its statement, in lines
pub record Found : Type 0 where
  pub contact : Contact
  pub backtrace : List ℕ

-- one that was found, as the definitions have it
abbrev pub seen : FoundContact → Found
seen f = record { contact = f.contact; backtrace = f.backtrace.items }

-- the rounds behind a step at a statement, if there is one: it has this number, and these are the next one and the stop behind it
abbrev pub rounds_at : List ℕ → (number next : ℕ) → Option StopPlace → Option CodeStatement → List ℕ
rounds_at rounds number next stop None = rounds
rounds_at rounds number next stop (Some s) = rounds_behind rounds s.op number next stop

-- the rounds behind a step from a state to another
abbrev pub rounds_on : Code → List ℕ → CodeState → CodeState → List ℕ
rounds_on c rounds m after = rounds_at rounds m.next after.next after.world.stop (slice_get c.statements m.next)

-- the rounds behind n steps
abbrev pub rounds_passed : Workpiece → Code → ℕ → List ℕ
rounds_passed part c zero = replicate 32 0
rounds_passed part c (suc n) = rounds_on c (rounds_passed part c n) (passed_after part c n).state (passed_after part c (suc n)).state

-- a contact with the backtrace of its statement, where variables have these values and loops have begun these rounds
abbrev pub found_at : Option Sourced → List CodeStatement → Tables → List ℤ → List ℕ → Contact → Found
found_at s ss tables values rounds contact = record { contact = contact; backtrace = backtrace_lines s ss tables values rounds contact.number }

-- those of one step, to this state and these rounds
abbrev pub found_on : Option Sourced → Code → CodeState → List ℕ → List Contact → List Found
found_on s c after rounds contacts = map (found_at s c.statements c.tables after.world.variables rounds) contacts

-- those of n steps from the start
abbrev pub found_after : Option Sourced → Workpiece → Code → ℕ → List Found
found_after s part c zero = []
found_after s part c (suc n) =
    found_after s part c n ++ found_on s c (passed_after part c (suc n)).state (rounds_passed part c (suc n)) (pass part c (passed_after part c n).state).contacts
