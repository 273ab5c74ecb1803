-- The margin of a run or its result, and its result with the values of variables, as views.
use Rattle.std.specs.Prelude.{ℕ, List, Option, IfOk, IfErr, Result, Ok, Err}
use Rattle.std.proofs.Common.{◌≡◌, refl, subst}
use Rattle.std.proofs.KnownBytes.{Keeps-refl}
use Rattle.vcm_spec.specs.Workpiece.{Workpiece}
use Rattle.vcm_program.specs.declared.accepted.Noticed.{Noticed}
use Rattle.vcm_code.specs.declared.code.Code.{Code}
use Rattle.vcm_machine.specs.declared.ran.End.TheVariants.{NoMemory}
use Rattle.vcm_machine.specs.declared.ran.Ran.{Ran}
use Rattle.vcm_machine.specs.Running.{Running, started, RunEnded, HasRun}
use Rattle.vcm_state.specs.Held.{Held}
use Rattle.vcm_job.specs.Jobs.{status_of}
use Rattle.vcm_job.specs.Views.{IsViewed, IsCutShort}
use Rattle.vcm_job.specs.declared.fault.Fault.{Fault}
use Rattle.vcm_job.specs.declared.fault.InputRefusal.{InputRefusal}
use Rattle.vcm_job.specs.declared.fault.Fault.TheVariants as faults
use Rattle.vcm_views.specs.Views.{HasRunTo, margin_view, values_view}
use Rattle.vcm_views.specs.inner.Told.{IsTold, IsNotTold}
use Rattle.vcm_views.specs.inner.Shown.{shown_text, IsShown, IsNotShown}

module _ (program : Option (List ℕ)) (notices : List Noticed) (w part : Workpiece) (same : w ≡ part) (c : Code) (n : ℕ) (first new : Running) (ran : Ran)
    (begun : first ≡ started w c) (run : HasRun n first new ran) where
  from_start : HasRun n (started part c) new ran
  from_start = subst (λ p. HasRun n (started p c) new ran) same (subst (λ m. HasRun n m new ran) begun run)

  module _ (held : Held) (state : held.state ≡ new.state.world) (tables : held.tables ≡ new.code.tables) (ample : ran.end ≡ NoMemory → ⊥) where
    run_to : HasRunTo part c n held ran
    run_to = record { new = new; run = from_start; state = state; tables = tables }

    told_viewed : (status : ℕ) (old after : Option (List ℕ)) → IsTold program part c held ran.done status old after → IsViewed margin_view program notices part c n status old after
    told_viewed status old after t = record {
      text = t.text;
      tells = record { held = held; ran = ran; run = run_to; ample = ample; told = t.told; status_is = t.status_is };
      written = t.written;
    }

    told_cut_short : (f : Fault InputRefusal) (old after : Option (List ℕ)) → IsNotTold program part c held ran.done f old after → IsCutShort margin_view program notices part c n f old after
    told_cut_short faults.NoMemory old after k = k
    told_cut_short (faults.Write d) old after t = record {
      text = t.text;
      status = status_of held.state.stop;
      tells = record { held = held; ran = ran; run = run_to; ample = ample; told = t.told; status_is = refl };
      front = t.front;
    }
    told_cut_short (faults.Memory d) old after t = absurd t
    told_cut_short (faults.Refused r) old after t = absurd t
    told_cut_short faults.Read old after t = absurd t
    told_cut_short faults.TooLong old after t = absurd t

    pub viewed_of : (r : Result ℕ (Fault InputRefusal)) (old after : Option (List ℕ)) → IfOk r (λ status. IsTold program part c held ran.done status old after)
        → IfOk r (λ status. IsViewed margin_view program notices part c n status old after)
    viewed_of (Ok status) old after t = told_viewed status old after t
    viewed_of (Err f) old after t = tt

    pub cut_short_of : (r : Result ℕ (Fault InputRefusal)) (old after : Option (List ℕ)) → IfErr r (λ f. IsNotTold program part c held ran.done f old after)
        → IfErr r (λ f. IsCutShort margin_view program notices part c n f old after)
    cut_short_of (Ok status) old after t = tt
    cut_short_of (Err f) old after t = told_cut_short f old after t

  pub run_halted : ran.end ≡ NoMemory → (old : Option (List ℕ)) → IsCutShort margin_view program notices part c n (faults.Memory ran.done) old old
  run_halted e old =
      let ended : RunEnded n (started part c) new ran.done NoMemory = subst (λ x. RunEnded n (started part c) new ran.done x) e from_start.ended in
      (subst (λ m. RunEnded n (started part c) m ran.done NoMemory) from_start.new_is ended, Keeps-refl old)

-- the result with the values of variables
module _ (places : List ℕ) (program : Option (List ℕ)) (notices : List Noticed) (w part : Workpiece) (same : w ≡ part) (c : Code) (n : ℕ) (first new : Running) (ran : Ran)
    (begun : first ≡ started w c) (run : HasRun n first new ran) where
  whole : HasRun n (started part c) new ran
  whole = subst (λ p. HasRun n (started p c) new ran) same (subst (λ m. HasRun n m new ran) begun run)

  module _ (held : Held) (state : held.state ≡ new.state.world) (tables : held.tables ≡ new.code.tables) (ample : ran.end ≡ NoMemory → ⊥) where
    shown_viewed : (status : ℕ) (old after : Option (List ℕ)) → IsShown places held ran.done status old after
        → IsViewed (values_view places) program notices part c n status old after
    shown_viewed status old after t = record {
      text = shown_text places held ran.done;
      tells = record { held = held; ran = ran; run = record { new = new; run = whole; state = state; tables = tables }; ample = ample; text_is = refl; status_is = t.status_is };
      written = t.written;
    }

    shown_cut : (f : Fault InputRefusal) (old after : Option (List ℕ)) → IsNotShown places held ran.done f old after
        → IsCutShort (values_view places) program notices part c n f old after
    shown_cut faults.NoMemory old after k = absurd k
    shown_cut (faults.Write d) old after t = record {
      text = shown_text places held ran.done;
      status = status_of held.state.stop;
      tells = record { held = held; ran = ran; run = record { new = new; run = whole; state = state; tables = tables }; ample = ample; text_is = refl; status_is = refl };
      front = t;
    }
    shown_cut (faults.Memory d) old after t = absurd t
    shown_cut (faults.Refused r) old after t = absurd t
    shown_cut faults.Read old after t = absurd t
    shown_cut faults.TooLong old after t = absurd t

    pub values_viewed : (r : Result ℕ (Fault InputRefusal)) (old after : Option (List ℕ)) → IfOk r (λ status. IsShown places held ran.done status old after)
        → IfOk r (λ status. IsViewed (values_view places) program notices part c n status old after)
    values_viewed (Ok status) old after t = shown_viewed status old after t
    values_viewed (Err f) old after t = tt

    pub values_cut_short : (r : Result ℕ (Fault InputRefusal)) (old after : Option (List ℕ)) → IfErr r (λ f. IsNotShown places held ran.done f old after)
        → IfErr r (λ f. IsCutShort (values_view places) program notices part c n f old after)
    values_cut_short (Ok status) old after t = tt
    values_cut_short (Err f) old after t = shown_cut f old after t

  pub values_halted : ran.end ≡ NoMemory → (old : Option (List ℕ)) → IsCutShort (values_view places) program notices part c n (faults.Memory ran.done) old old
  values_halted e old =
      let ended : RunEnded n (started part c) new ran.done NoMemory = subst (λ x. RunEnded n (started part c) new ran.done x) e whole.ended in
      (subst (λ m. RunEnded n (started part c) m ran.done NoMemory) whole.new_is ended, Keeps-refl old)
