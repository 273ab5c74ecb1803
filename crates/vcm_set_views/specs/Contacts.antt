-- All contacts of a run with several probes.
use Rattle.std.specs.Prelude.{◌≡◌, ℕ, List, ◌++◌, length, Option, Some, None}
use Rattle.vcm_spec.specs.declared.stop.StopPlace.{StopPlace}
use Rattle.vcm_spec.specs.Setup.{Tables}
use Rattle.vcm_report.specs.Printed.{end_line}
use Rattle.vcm_backtrace.specs.Sources.{Sourced, IsSourced}
use Rattle.vcm_contacts.specs.Noted.{Found}
use Rattle.vcm_contacts.specs.Printed.{count_line, contact_lines}
use Rattle.vcm_set_contacts.specs.declared.found.Lost.{Lost}
use Rattle.vcm_set_contacts.specs.declared.found.PassedEnd.{PassedEnd}
use Rattle.vcm_set_contacts.specs.Collecting.{end_of}
use Rattle.vcm_set_contacts.specs.Noted.{set_found}
use Rattle.vcm_set_contacts.specs.Passing.{SetPassed, set_passed_after}
use Rattle.vcm_set_views.specs.declared.contacts.ContactsTold.{ContactsTold}
use Rattle.vcm_set_views.specs.Ends.{no_probe_line}
use Rattle.vcm_set_views.specs.Fit.{Fit}

-- how a run for n steps ended: before which step without a probe, if it did; else at its stop, or at none
abbrev pub passed_end_by : Tables → Option StopPlace → Option Lost → (n : ℕ) → List ℕ
passed_end_by tables stop (Some l) n = no_probe_line l.probe l.step
passed_end_by tables stop None n = end_line tables stop n

abbrev pub passed_end_line : Tables → PassedEnd → (n : ℕ) → List ℕ
passed_end_line tables e n = passed_end_by tables e.stop e.lost n

-- the contacts of a run for n steps beside blocks with these names, which ended so
abbrev pub found_text : List (List ℕ) → Tables → List Found → PassedEnd → (n : ℕ) → List ℕ
found_text names tables fs e n = contact_lines names fs ++ (count_line fs ++ passed_end_line tables e n)

-- where such a run stands
abbrev pub passed_of : Fit → (n : ℕ) → SetPassed
passed_of f n = set_passed_after f.part f.probes f.variable f.code n

-- the contacts that are found in it, of a code with this source, if it has one
abbrev pub found_of : Option Sourced → Fit → (n : ℕ) → List Found
found_of s f n = set_found s f.part f.probes f.variable f.code n

-- this is what is told of it, of a code from this text or from none: the contacts as text, how many they are, and how it ended
pub record AreContactsTold (names : List (List ℕ)) (text : Option (List ℕ)) (f : Fit) (n : ℕ) (told : ContactsTold) : Type 0 where
  pub source : Option Sourced
  pub is_source : IsSourced text source
  pub text_is : told.text.items ≡ found_text names f.code.tables (found_of source f n) (end_of (passed_of f n)) n
  pub count_is : told.count ≡ length (found_of source f n)
  pub end_is : told.end ≡ end_of (passed_of f n)
