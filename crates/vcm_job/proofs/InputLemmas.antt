-- What was written of the run of an input.
use Rattle.std.proofs.Common.{◌≡◌, ℕ, List, Option, subst}
use Rattle.std.specs.Prelude.{IfSome, IfErr, Result}
use Rattle.std.specs.Io.KnownBytes.{Keeps}
use Rattle.vcm_spec.specs.Workpiece.{Workpiece}
use Rattle.vcm_program.specs.declared.accepted.Noticed.{Noticed}
use Rattle.vcm_run.specs.Summaries.{Shown}
use Rattle.vcm_job.specs.declared.fault.Fault.{Fault}
use Rattle.vcm_job.specs.declared.fault.InputRefusal.{InputRefusal}
use Rattle.vcm_job.specs.Inputs.{IsInputRun, IsInputRefusal, IsWritten, IsHaltedRun, IsRunCutOff, IsNotWritten}
use Rattle.vcm_job.specs.inner.Running.{IsShown, IsShort, IsShownInPart, IsNotRun}
use Rattle.vcm_job.proofs.UnreadLemmas.{known, none_written_of}

module _ (part : Workpiece) (input : List ℕ) (n : ℕ) (s : Shown) (run : IsInputRun part input n s) where
  -- the result of a run was written whole
  pub run_done : (status : ℕ) (notices : List Noticed) (old new : Option (List ℕ)) → IsShown s status notices old new → IsWritten part input n status notices old new
  run_done status notices old new h =
      record { shown = s; run = run; ample = h.ample; status_is = h.status_is; notices_are = h.notices_are; written = h.written }

  -- a run was refused memory
  pub run_short : (done : ℕ) (old new : Option (List ℕ)) → IsShort s done × Keeps old new → IsHaltedRun part input n done × Keeps old new
  run_short done old new (h, k) = (record { shown = s; run = run; halted = h.halted; count = h.count }, k)

  -- a front of the result of a run was written
  pub run_cut_off : (done : ℕ) (old new : Option (List ℕ)) → IsShownInPart s done old new → IsRunCutOff part input n done old new
  run_cut_off done old new h = record { shown = s; run = run; ample = h.ample; count = h.count; front = h.front }

-- what holds of what was read holds of the input
pub not_written_of : {A : Type 0} (part : Workpiece) (n : ℕ) (a b : Option (List ℕ)) (bytes : List ℕ) (r : Result A (Fault InputRefusal)) (old new : Option (List ℕ))
    → IfSome a (λ input. bytes ≡ input) → IfErr r (λ f. IsNotRun part bytes n f old new) → IfErr r (λ f. IsNotWritten part n a b f old new)
not_written_of part n a b bytes r old new all h =
    none_written_of IsInputRefusal a b bytes all _ _ _ (IsRunCutOff part bytes n) old new
    (λ done p. (known a _ _ all (λ input is. subst (λ i. IsHaltedRun part i n done) is p.0), p.1))
    (λ done p. known a _ _ all (λ input is. subst (λ i. IsRunCutOff part i n done old new) is p)) r h
