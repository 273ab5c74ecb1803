-- The steps of a session on an input.
use Rattle.std.specs.Prelude.{ℕ, List, Option, IfSome, Err}
use Rattle.std.specs.Io.KnownBytes.{Keeps}
use Rattle.vcm_spec.specs.Workpiece.{Workpiece}
use Rattle.vcm_code.specs.declared.code.Code.{Code}
use Rattle.vcm_image.specs.Whole.{code_at}
use Rattle.vcm_loader.specs.Loading.{LoadFault}
use Rattle.vcm_job.specs.declared.fault.Fault.{Fault}
use Rattle.vcm_job.specs.declared.fault.Fault.TheVariants.{Refused, NoMemory}
use Rattle.vcm_job.specs.declared.fault.SessionFault.{SessionFault}
use Rattle.vcm_job.specs.declared.fault.SessionFault.TheVariants.{Image, Serve}
use Rattle.vcm_job.specs.Debugged.{IsSession, IsServedOn}

-- memory was refused before the first line, and nothing was written; or the session ended with a fault
abbrev pub IsNoSession : Workpiece → Code → Option (List ℕ) → Option (List ℕ) → Fault SessionFault → Option (List ℕ) → Option (List ℕ) → Type 0
IsNoSession part code known after NoMemory old new = Keeps old new
IsNoSession part code known after (Refused (Serve e)) old new = IfSome known (λ lines. IsSession part code lines after old new (Err e))
IsNoSession part code known after _ old new = ⊥

-- the fault of a session on an image that was built: such an image is refused for want of memory alone
abbrev pub built_fault : Fault SessionFault → Fault SessionFault
built_fault (Refused (Serve e)) = Refused (Serve e)
built_fault _ = NoMemory

-- the image is refused, or memory was, and nothing was written; or the session ended with a fault. `known` are the lines, and `after` what
-- of them wasn't read
abbrev pub IsNotServed : Workpiece → List ℕ → Option (List ℕ) → Option (List ℕ) → Fault SessionFault → Option (List ℕ) → Option (List ℕ) → Type 0
IsNotServed part image known after (Refused (Image e)) old new = LoadFault (code_at image) e × Keeps old new
IsNotServed part image known after NoMemory old new = Keeps old new
IsNotServed part image known after (Refused (Serve e)) old new = IfSome known (λ lines. IsServedOn part image lines after old new (Err e))
IsNotServed part image known after _ old new = ⊥
