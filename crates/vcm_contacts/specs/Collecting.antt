-- The contacts of a run, and why they aren't told.
use Rattle.std.specs.Prelude.{◌≡◌, ℕ, ◌<◌, true, List, Option, None, slice_get}
use Rattle.vcm_spec.specs.declared.stop.StopPlace.{StopPlace}
use Rattle.vcm_spec.specs.Workpiece.{Workpiece}
use Rattle.vcm_code.specs.declared.code.Code.{Code}
use Rattle.vcm_code.specs.CodeTable.{next_prints}
use Rattle.vcm_backtrace.specs.Sources.{Sourced}
use Rattle.vcm_steps.specs.declared.fault.Unfinished.{Unfinished}
use Rattle.vcm_steps.specs.declared.fault.Unfinished.TheVariants.{NoMemory, Memory, Write}
use Rattle.vcm_contacts.specs.Noted.{Found, found_after}
use Rattle.vcm_contacts.specs.Passing.{passed_after}

-- these are the contacts of a run for n steps that goes on behind each, of a code with this source, if it has one, and this is how it ended
pub record AreContacts (s : Option Sourced) (part : Workpiece) (c : Code) (n : ℕ) (found : List Found) (stop : Option StopPlace) : Type 0 where
  pub found_are : found ≡ found_after s part c n
  pub stop_is : stop ≡ (passed_after part c n).state.world.stop

-- memory was refused before such a run or for its contacts; or behind so many of its steps, to a statement that makes an output line
abbrev pub AreNoContacts : Workpiece → Code → ℕ → Unfinished → Type 0
AreNoContacts part c n NoMemory = Unit {0}
AreNoContacts part c n (Memory done) =
    (done < n) × ((passed_after part c done).state.world.stop ≡ None) × (next_prints (slice_get c.statements (passed_after part c done).state.next) ≡ true)
AreNoContacts part c n (Write done) = ⊥
