-- The page of a code as a view.
use Rattle.std.specs.Prelude.{ℕ, Bool, List, Option, Result, Ok, Err, IfOk, IfErr}
use Rattle.std.proofs.Common.{◌≡◌, refl, sym, ◌∙◌, subst}
use Rattle.vcm_spec.specs.Workpiece.{Workpiece}
use Rattle.vcm_program.specs.declared.accepted.Noticed.{Noticed}
use Rattle.vcm_code.specs.declared.code.Code.{Code}
use Rattle.vcm_steps.specs.Passages.{state_after}
use Rattle.vcm_job.specs.Jobs.{status_of}
use Rattle.vcm_job.specs.declared.fault.Fault.{Fault}
use Rattle.vcm_job.specs.declared.fault.Fault.TheVariants as faults
use Rattle.vcm_job.specs.declared.fault.InputRefusal.{InputRefusal}
use Rattle.vcm_job.specs.Views.{IsViewed, IsCutShort}
use Rattle.vcm_job.proofs.OneView.{one_view}
use Rattle.vcm_page.specs.Views.{Texts, page_of, page_view, PagesAreOne}
use Rattle.vcm_page.specs.inner.Written.{IsWritten, IsNotWritten}

module _ (texts : Texts) (program : Option (List ℕ)) (notices : List Noticed) (part : Workpiece) (c : Code) (n : ℕ) (text : List ℕ) (same : text ≡ page_of texts program notices part c n)
    (old new : Option (List ℕ)) where
  page_viewed : (status : ℕ) → IsWritten part c text n status old new → IsViewed (page_view texts) program notices part c n status old new
  page_viewed status h = record { text = text; tells = record { text_is = same; status_is = h.status_is }; written = h.written }

  page_cut : (f : Fault InputRefusal) → IsNotWritten part c text n f old new → IsCutShort (page_view texts) program notices part c n f old new
  page_cut (faults.Write done) h = record {
    text = text;
    status = status_of (state_after part c n).world.stop;
    tells = record { text_is = same; status_is = refl };
    front = h;
  }
  page_cut (faults.Memory done) h = h
  page_cut faults.NoMemory h = h
  page_cut (faults.Refused r) h = absurd h
  page_cut faults.Read h = absurd h
  page_cut faults.TooLong h = absurd h

  pub viewed_of : (r : Result ℕ (Fault InputRefusal)) → IfOk r (λ status. IsWritten part c text n status old new)
      → IfOk r (λ status. IsViewed (page_view texts) program notices part c n status old new)
  viewed_of (Ok status) h = page_viewed status h
  viewed_of (Err f) h = tt

  pub cut_short_of : (r : Result ℕ (Fault InputRefusal)) → IfErr r (λ f. IsNotWritten part c text n f old new)
      → IfErr r (λ f. IsCutShort (page_view texts) program notices part c n f old new)
  cut_short_of (Ok status) h = tt
  cut_short_of (Err f) h = page_cut f h

pub one_page : PagesAreOne
one_page texts part = one_view (page_view texts) part (λ p l c n t u s m ok h k. (h.text_is ∙ sym k.text_is, h.status_is ∙ sym k.status_is))
