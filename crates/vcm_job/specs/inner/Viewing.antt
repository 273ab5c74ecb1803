-- The view of an input that was read.
use Rattle.std.specs.Prelude.{ℕ, Bool, true, false, List, Option}
use Rattle.vcm_spec.specs.Workpiece.{Workpiece}
use Rattle.vcm_job.specs.declared.fault.Fault.{Fault}
use Rattle.vcm_job.specs.declared.fault.InputRefusal.{InputRefusal}
use Rattle.vcm_job.specs.declared.fault.Fault.TheVariants as faults
use Rattle.vcm_job.specs.inner.Judged.{IsCutAs}
use Rattle.vcm_job.specs.Inputs.{IsInputRefusal}
use Rattle.vcm_job.specs.Views.{RunView, IsNotShown}

-- why no whole view of an input was written, once it was read: a fault in its run; or memory or a refusal, and nothing was written
abbrev pub IsInputNotViewed : RunView → Workpiece → List ℕ → ℕ → Fault InputRefusal → Option (List ℕ) → Option (List ℕ) → Type 0
IsInputNotViewed view part input n f old new =
    IsCutAs (IsInputRefusal input) (λ done. IsNotShown view part input n (faults.Memory done)) (λ done. IsNotShown view part input n (faults.Write done))
    f old new

-- an image that was built is refused for want of memory alone
abbrev pub judged : Bool → Fault InputRefusal → Fault InputRefusal
judged true (faults.Refused r) = faults.NoMemory
judged false (faults.Refused r) = faults.Refused r
judged b faults.NoMemory = faults.NoMemory
judged b (faults.Memory done) = faults.Memory done
judged b faults.Read = faults.Read
judged b (faults.Write done) = faults.Write done
judged b faults.TooLong = faults.TooLong
