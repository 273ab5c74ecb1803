-- What was written of the page of a code.
use Rattle.std.specs.Prelude.{◌≡◌, ℕ, List, Option}
use Rattle.std.specs.Io.KnownBytes.{Appends, Keeps}
use Rattle.vcm_num.specs.Written.{AppendsFront}
use Rattle.vcm_spec.specs.Workpiece.{Workpiece}
use Rattle.vcm_code.specs.declared.code.Code.{Code}
use Rattle.vcm_steps.specs.Passages.{state_after}
use Rattle.vcm_job.specs.Jobs.{status_of}
use Rattle.vcm_job.specs.declared.fault.Fault.{Fault}
use Rattle.vcm_job.specs.declared.fault.InputRefusal.{InputRefusal}
use Rattle.vcm_job.specs.declared.fault.Fault.TheVariants as faults
use Rattle.vcm_page.specs.Views.{IsHaltedAfter}

-- a page with this text was written and nothing else, with this exit status
pub record IsWritten (part : Workpiece) (c : Code) (text : List ℕ) (n status : ℕ) (old new : Option (List ℕ)) : Type 0 where
  pub written : Appends old new text
  pub status_is : status ≡ status_of (state_after part c n).world.stop

-- why it wasn't: a write failed; or memory was refused, and nothing was written
abbrev pub IsNotWritten : Workpiece → Code → List ℕ → ℕ → Fault InputRefusal → Option (List ℕ) → Option (List ℕ) → Type 0
IsNotWritten part c text n (faults.Write done) old new = AppendsFront old new text
IsNotWritten part c text n (faults.Memory done) old new = IsHaltedAfter part c n done × Keeps old new
IsNotWritten part c text n faults.NoMemory old new = Keeps old new
IsNotWritten part c text n _ old new = ⊥

-- why the steps of a run were not counted: memory was refused, in it or before
abbrev pub IsNotCounted : Workpiece → Code → ℕ → Fault InputRefusal → Type 0
IsNotCounted part c n (faults.Memory done) = IsHaltedAfter part c n done
IsNotCounted part c n faults.NoMemory = Unit {0}
IsNotCounted part c n _ = ⊥
