-- Worked examples: contacts with several probes, as they are told.
use Rattle.std.specs.Prelude.{◌≡◌, refl, pos, [], ◌∷◌, None, Some, codes}
use Rattle.std.specs.Fmt.{digits}
use Rattle.vcm_spec.specs.declared.words.MovePhase.TheVariants.{Move}
use Rattle.vcm_spec.specs.Setup.{Tables}
use Rattle.vcm_report.specs.Printed.{in_a_row}
use Rattle.vcm_contacts.specs.Noted.{Found}
use Rattle.vcm_set_contacts.specs.declared.found.PassedEnd.{PassedEnd}
use Rattle.vcm_set_views.specs.Contacts.{found_text}

abbrev tables : Tables
tables = record { variables = []; features = []; frames = [] }

abbrev contact : Found
contact = record { contact = record { phase = Move; hit = record { block = 1; permille = 904 }; number = 1; line = 5 }; backtrace = [] }

-- a run that ends without a probe before its eighth step
abbrev lost : PassedEnd
lost = record { stop = None; lost = Some (record { probe = record { value = pos 5; number = 7; line = 11 }; step = 8 }) }

pub ends_without : found_text [] tables (contact ∷ []) lost 1000 ≡ in_a_row (
    codes "COLLISION MOVE block 1 permille 904 at 1 line 5\n"
    ∷ codes "1 contact; behind line 5 the run is one that would not take place\n"
    ∷ codes "no probe 5 at 7 line 11 step 8\n"
    ∷ [])
unfolding digits
ends_without = refl

-- one that is cut short
pub cut_short : found_text [] tables [] (record { stop = None; lost = None }) 3 ≡ in_a_row (codes "0 contacts\n" ∷ codes "no stop after 3 steps\n" ∷ [])
unfolding digits
cut_short = refl
