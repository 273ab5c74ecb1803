-- Contacts as text.
use Rattle.std.specs.Prelude.{ℕ, nat_eq, if◌then◌else◌, List, [], ◌∷◌, ◌++◌, length, flat_map, Option, decimal, codes}
use Rattle.vcm_spec.specs.declared.stop.StopPlace.{StopPlace}
use Rattle.vcm_spec.specs.Setup.{Tables}
use Rattle.vcm_report.specs.Printed.{in_a_row, phase_text, end_line}
use Rattle.vcm_naming.specs.Naming.{Line, plain, about, named_text}
use Rattle.vcm_contacts.specs.declared.contact.Contact.{Contact}
use Rattle.vcm_contacts.specs.Noted.{Found}

-- what a statement meets, and where it stands: as a stop tells it
abbrev pub contact_text : Contact → List ℕ
contact_text c = in_a_row (codes "COLLISION " ∷ phase_text c.phase ∷ codes " block " ∷ decimal c.hit.block ∷ codes " permille " ∷ decimal c.hit.permille
    ∷ codes " at " ∷ decimal c.number ∷ codes " line " ∷ decimal c.line ∷ codes "\n" ∷ [])

-- its line
abbrev pub contact_line : Contact → Line
contact_line c = about c.hit.block (contact_text c)

-- its line, and below it the backtrace of its statement
abbrev pub found_lines : Found → List Line
found_lines f = contact_line f.contact ∷ plain f.backtrace ∷ []

-- those of all
abbrev pub all_lines : List Found → List Line
all_lines fs = flat_map found_lines fs

-- one contact, or several
abbrev pub contacts_word : ℕ → List ℕ
contacts_word n = if nat_eq n 1 then codes " contact" else codes " contacts"

-- how many contacts there are, the first on this line, and that all behind it is a guess
abbrev pub some_line : ℕ → ℕ → List ℕ
some_line n line = in_a_row (decimal n ∷ contacts_word n ∷ codes "; behind line " ∷ decimal line ∷ codes " the run is one that would not take place\n" ∷ [])

-- the same, or that there is none
abbrev pub count_line : List Found → List ℕ
count_line [] = codes "0 contacts\n"
count_line (f ∷ fs) = some_line (length (f ∷ fs)) f.contact.line

-- the contacts, with the name of each block that has one among these
abbrev pub contact_lines : List (List ℕ) → List Found → List ℕ
contact_lines names fs = named_text names (all_lines fs)

-- the contacts of a run for n steps beside blocks with these names, which ended so
abbrev pub contacts_text : List (List ℕ) → Tables → List Found → Option StopPlace → ℕ → List ℕ
contacts_text names tables fs stop n = contact_lines names fs ++ (count_line fs ++ end_line tables stop n)
