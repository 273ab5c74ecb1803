-- The contacts of a run, as they are told.
use Rattle.std.proofs.Common.{◌≡◌, ℕ, List, length, Option, ap, ◌∙◌, subst}
use Rattle.vcm_spec.specs.Setup.{Tables}
use Rattle.vcm_spec.specs.Workpiece.{Workpiece}
use Rattle.vcm_code.specs.declared.code.Code.{Code}
use Rattle.vcm_probe_set.specs.Probes.{Probes}
use Rattle.vcm_turning.specs.Machine.{Turner, turner}
use Rattle.vcm_backtrace.specs.Sources.{Sourced, IsSourced}
use Rattle.vcm_contacts.specs.Noted.{Found}
use Rattle.vcm_set_contacts.specs.declared.found.PassedEnd.{PassedEnd}
use Rattle.vcm_set_contacts.specs.Collecting.{AreSetContacts}
use Rattle.vcm_set_views.specs.declared.contacts.ContactsTold.{ContactsTold}
use Rattle.vcm_set_views.specs.Contacts.{found_text, found_of, AreContactsTold}
use Rattle.vcm_set_views.specs.Fit.{Fit, fit_of}

-- those of a machine are those of the run that it was made for
pub of_machine : (s : Option Sourced) (f : Fit) (m : Turner) (part : Workpiece) (set : Probes) (v : ℕ) (c : Code) → m ≡ turner part set.probes v c → fit_of part set c v ≡ f
    → (n : ℕ) (found : List Found) (end : PassedEnd) → AreSetContacts s m.part m.probes m.variable c n found end
    → AreSetContacts s f.part f.probes f.variable f.code n found end
of_machine s f m part set v c e g n found end h =
    subst (λ (k : Fit). AreSetContacts s k.part k.probes k.variable k.code n found end) g
    (subst (λ (x : Turner). AreSetContacts s x.part x.probes x.variable c n found end) e h)

-- they are told so
pub told_so : (names : List (List ℕ)) (text : Option (List ℕ)) (s : Option Sourced) → IsSourced text s → (f : Fit) (n : ℕ) (found : List Found) (end : PassedEnd)
    → AreSetContacts s f.part f.probes f.variable f.code n found end
    → (tables : Tables) → tables ≡ f.code.tables → (told : ContactsTold) → told.text.items ≡ found_text names tables found end n → told.count ≡ length found
    → told.end ≡ end → AreContactsTold names text f n told
told_so names text s is f n found end are tables e told written count ends = record {
  source = s;
  is_source = is;
  text_is = written ∙ ap (λ (t : Tables). found_text names t found end n) e ∙ ap (λ (fs : List Found). found_text names f.code.tables fs end n) are.found_are
      ∙ ap (λ (x : PassedEnd). found_text names f.code.tables (found_of s f n) x n) are.end_is;
  count_is = count ∙ ap length are.found_are;
  end_is = ends ∙ are.end_is;
}
