-- Worked lists of contacts, computed.
use Rattle.std.specs.Prelude.{◌≡◌, refl, ℕ, ◌+◌, List, [], ◌∷◌, None, codes}
use Rattle.std.specs.Fmt.{digits}
use Rattle.vcm_spec.specs.declared.words.MovePhase.{MovePhase}
use Rattle.vcm_spec.specs.declared.words.MovePhase.TheVariants.{Move, Retract}
use Rattle.vcm_spec.specs.Setup.{Tables}
use Rattle.vcm_report.specs.Printed.{in_a_row}
use Rattle.vcm_contacts.specs.Noted.{Found}
use Rattle.vcm_contacts.specs.Printed.{contacts_text}

-- a contact with a block at a third of the way, and the backtrace of its statement
abbrev contact : MovePhase → (block number : ℕ) → (backtrace : List ℕ) → Found
contact phase block number backtrace =
    record { contact = record { phase = phase; hit = record { block = block; permille = 333 }; number = number; line = number + 5 }; backtrace = backtrace }

abbrev tables : Tables
tables = record { variables = []; features = []; frames = [] }

-- of four blocks the last has a name
abbrev names : List (List ℕ)
names = [] ∷ [] ∷ [] ∷ codes "before bore 1" ∷ []

-- two contacts with it: its name stands below the first, and below that the backtrace of its statement
pub named_once : contacts_text names tables (contact Move 4 2 (codes "in M(IN) from line 12: CALL/M(IN)\n") ∷ contact Retract 4 7 [] ∷ []) None 9 ≡ in_a_row (
    codes "COLLISION MOVE block 4 permille 333 at 2 line 7\n"
    ∷ codes "block 4 is \"before bore 1\"\n"
    ∷ codes "in M(IN) from line 12: CALL/M(IN)\n"
    ∷ codes "COLLISION RETRACT block 4 permille 333 at 7 line 12\n"
    ∷ codes "2 contacts; behind line 7 the run is one that would not take place\n"
    ∷ codes "no stop after 9 steps\n"
    ∷ [])
unfolding digits
named_once = refl

-- one with a block that has none
pub not_named : contacts_text names tables (contact Move 2 2 [] ∷ []) None 9 ≡ in_a_row (
    codes "COLLISION MOVE block 2 permille 333 at 2 line 7\n"
    ∷ codes "1 contact; behind line 7 the run is one that would not take place\n"
    ∷ codes "no stop after 9 steps\n"
    ∷ [])
unfolding digits
not_named = refl
