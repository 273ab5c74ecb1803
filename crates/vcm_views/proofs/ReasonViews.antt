-- Why a run stops, and its contacts, as views.
use Rattle.std.specs.Prelude.{ℕ, List, Option}
use Rattle.std.specs.Io.KnownBytes.{Appends, Keeps}
use Rattle.std.proofs.Common.{◌≡◌, refl, subst}
use Rattle.vcm_num.specs.Written.{AppendsFront}
use Rattle.vcm_spec.specs.declared.stop.StopPlace.{StopPlace}
use Rattle.vcm_spec.specs.Workpiece.{Workpiece}
use Rattle.vcm_spec.specs.Setup.{Tables}
use Rattle.vcm_program.specs.declared.accepted.Noticed.{Noticed}
use Rattle.vcm_code.specs.declared.code.Code.{Code}
use Rattle.vcm_steps.specs.declared.fault.Unfinished.{Unfinished}
use Rattle.vcm_steps.specs.declared.fault.Unfinished.TheVariants as faults
use Rattle.vcm_job.specs.Jobs.{status_of}
use Rattle.vcm_job.specs.declared.fault.Fault.TheVariants.{Write}
use Rattle.vcm_job.specs.Views.{IsViewed, IsCutShort}
use Rattle.vcm_cause.specs.Watched.{seen}
use Rattle.vcm_why.specs.Reasons.{why_lines}
use Rattle.vcm_why.specs.Telling.{IsReason, IsWhy, IsNoWhy}
use Rattle.vcm_backtrace.specs.Sources.{Sourced, IsSourced}
use Rattle.vcm_contacts.specs.Noted.{Found}
use Rattle.vcm_contacts.specs.Collecting.{AreContacts, AreNoContacts}
use Rattle.vcm_contacts.specs.Printed.{contacts_text}
use Rattle.vcm_views.specs.Views.{why_view, contacts_status, contacts_view}
use Rattle.vcm_views.specs.inner.Cuts.{cut_short}

-- what is told, apart from what became of it
module _ (names : List (List ℕ)) (program : Option (List ℕ)) (part : Workpiece) (c : Code) (n : ℕ) (stop : Option StopPlace) (W : List ℕ → Type 0)
    (h : IsReason names program part c n stop W) where
  abbrev lines : List ℕ
  lines = why_lines names h.traced part c.statements h.held h.number (seen h.progress) h.ran.done

  reason : IsReason names program part c n stop (λ t. t ≡ lines)
  reason = record {
    held = h.held;
    number = h.number;
    ran = h.ran;
    progress = h.progress;
    watched = h.watched;
    ample = h.ample;
    traced = h.traced;
    is_traced = h.is_traced;
    stop_is = h.stop_is;
    written = refl;
  }

module _ (names : List (List ℕ)) (program : Option (List ℕ)) (notices : List Noticed) (part : Workpiece) (c : Code) (n : ℕ) (old new : Option (List ℕ)) where
  pub why_viewed : (status : ℕ) (stop : Option StopPlace) → IsWhy names program part c n stop old new → status ≡ status_of stop
      → IsViewed (why_view names) program notices part c n status old new
  why_viewed status stop h s = record {
    text = lines names program part c n stop (Appends old new) h;
    tells = record { stop = stop; told = reason names program part c n stop (Appends old new) h; status_is = s };
    written = h.written;
  }

  pub why_cut_short : (f : Unfinished) → IsNoWhy names program part c n f old new → IsCutShort (why_view names) program notices part c n (cut_short f) old new
  why_cut_short faults.NoMemory h = h
  why_cut_short (faults.Memory done) h = h
  why_cut_short (faults.Write done) h = record {
    text = lines names program part c n h.0 (AppendsFront old new) h.1;
    status = status_of h.0;
    tells = record { stop = h.0; told = reason names program part c n h.0 (AppendsFront old new) h.1; status_is = refl };
    front = h.1.written;
  }

  pub contacts_viewed : (source : Option Sourced) → IsSourced program source → (tables : Tables) (found : List Found) (stop : Option StopPlace) (status : ℕ) → tables ≡ c.tables
      → AreContacts source part c n found stop → Appends old new (contacts_text names tables found stop n) → status ≡ contacts_status found stop
      → IsViewed (contacts_view names) program notices part c n status old new
  contacts_viewed source is tables found stop status e are w s = record {
    text = contacts_text names c.tables found stop n;
    tells = record { source = source; is_source = is; found = found; stop = stop; are = are; text_is = refl; status_is = s };
    written = subst (λ t. Appends old new (contacts_text names t found stop n)) e w;
  }

  pub contacts_cut_off : (source : Option Sourced) → IsSourced program source → (tables : Tables) (found : List Found) (stop : Option StopPlace) → tables ≡ c.tables
      → AreContacts source part c n found stop → AppendsFront old new (contacts_text names tables found stop n) → IsCutShort (contacts_view names) program notices part c n (Write n) old new
  contacts_cut_off source is tables found stop e are w = record {
    text = contacts_text names c.tables found stop n;
    status = contacts_status found stop;
    tells = record { source = source; is_source = is; found = found; stop = stop; are = are; text_is = refl; status_is = refl };
    front = subst (λ t. AppendsFront old new (contacts_text names t found stop n)) e w;
  }

  pub contacts_halted : (f : Unfinished) → AreNoContacts part c n f → Keeps old new → IsCutShort (contacts_view names) program notices part c n (cut_short f) old new
  contacts_halted faults.NoMemory h k = k
  contacts_halted (faults.Memory done) h k = (h, k)
  contacts_halted (faults.Write done) h k = absurd h
