-- Sessions of the debugger on inputs.
use Rattle.std.specs.Prelude.{◌≡◌, ℕ, List, Option, IfSome, Result, Ok, Err}
use Rattle.std.specs.Io.KnownBytes.{Keeps}
use Rattle.vcm_spec.specs.Workpiece.{Workpiece}
use Rattle.vcm_program.specs.declared.accepted.Noticed.{Noticed}
use Rattle.vcm_code.specs.declared.code.Code.{Code}
use Rattle.vcm_code.specs.Valid.{IsValid}
use Rattle.vcm_image.specs.Whole.{FitsImage, spelling}
use Rattle.vcm_console.specs.declared.reply.ServeFault.{ServeFault}
use Rattle.vcm_debug.specs.Debugging.{Debugging, opened}
use Rattle.vcm_debug.specs.Serving.{Served}
use Rattle.vcm_job.specs.declared.fault.Fault.{Fault}
use Rattle.vcm_job.specs.declared.fault.Fault.TheVariants.{Refused, NoMemory}
use Rattle.vcm_job.specs.declared.fault.SessionFault.{SessionFault}
use Rattle.vcm_job.specs.declared.fault.SessionFault.TheVariants.{Text, Image, Serve}
use Rattle.vcm_job.specs.declared.fault.InputRefusal.TheVariants as refusals
use Rattle.vcm_job.specs.Given.{ImageAs}
use Rattle.vcm_job.specs.Unanswered.{IsUnanswered}
use Rattle.vcm_job.specs.Inputs.{is_image, IsInputRefusal}

-- these are the image of an input and its notices: of an image it is the input, without notices; of any other input that of the program that its text is
abbrev pub IsInputImage : List ℕ → List ℕ → List Noticed → Type 0
IsInputImage input image notices = ImageAs (is_image input) input image notices

-- a session at the start of a code served these lines, and ended so
abbrev pub IsSession : Workpiece → Code → List ℕ → Option (List ℕ) → Option (List ℕ) → Option (List ℕ) → Result (Unit {0}) ServeFault
    → Type 0
IsSession part code lines after old new r = (last : Debugging) × Served 10000 1048576 (opened part code) lines after old new r last

-- the bytes are the image of a valid code, and a session at its start served these lines, and ended so
pub record IsServedOn (part : Workpiece) (image lines : List ℕ) (after old new : Option (List ℕ)) (r : Result (Unit {0}) ServeFault)
    : Type 0 where
  pub code : Code
  pub valid : IsValid code
  pub fits : FitsImage code
  pub spelled : image ≡ spelling code
  pub session : IsSession part code lines after old new r

-- the replies of a session on the input were written, and nothing else, up to its end
pub record IsDebugged (part : Workpiece) (input lines : List ℕ) (after : Option (List ℕ)) (notices : List Noticed)
    (old new : Option (List ℕ)) : Type 0 where
  pub image : List ℕ
  pub image_is : IsInputImage input image notices
  pub served : IsServedOn part image lines after old new (Ok tt)

-- a session on the input ended with a fault
pub record IsCutShort (part : Workpiece) (input lines : List ℕ) (after : Option (List ℕ)) (fault : ServeFault) (old new : Option (List ℕ))
    : Type 0 where
  pub image : List ℕ
  pub notices : List Noticed
  pub image_is : IsInputImage input image notices
  pub served : IsServedOn part image lines after old new (Err fault)

-- why a session on the input didn't come to its end, and what was written: the input is refused, or memory was, and nothing was written; or
-- it ended with a fault
abbrev pub IsInputFault : Workpiece → List ℕ → Option (List ℕ) → Option (List ℕ) → Fault SessionFault → Option (List ℕ) → Option (List ℕ) → Type 0
IsInputFault part input known after (Refused (Image e)) old new = IsInputRefusal input (refusals.Image e) × Keeps old new
IsInputFault part input known after (Refused (Text r)) old new = IsInputRefusal input (refusals.Text r) × Keeps old new
IsInputFault part input known after (Refused (Serve e)) old new = IfSome known (λ lines. IsCutShort part input lines after e old new)
IsInputFault part input known after NoMemory old new = Keeps old new
IsInputFault part input known after _ old new = ⊥

-- the same, or the input wasn't read whole, and nothing was written
abbrev pub IsNotDebugged : Workpiece → Option (List ℕ) → Option (List ℕ) → Option (List ℕ) → Option (List ℕ) → Fault SessionFault
    → Option (List ℕ) → Option (List ℕ) → Type 0
IsNotDebugged part before behind known after (Refused e) old new = IfSome before (λ input. IsInputFault part input known after (Refused e) old new)
IsNotDebugged part before behind known after f old new = IsUnanswered (λ input (e : SessionFault). ⊥) before behind f × Keeps old new
