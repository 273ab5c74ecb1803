-- Sessions of the debugger that were served.
use Rattle.std.proofs.Common.{◌≡◌, ℕ, List, Option, Some, None, Ok, Err, subst}
use Rattle.std.specs.Prelude.{IfSome, Result}
use Rattle.vcm_program.specs.declared.accepted.Noticed.{Noticed}
use Rattle.vcm_spec.specs.Workpiece.{Workpiece}
use Rattle.vcm_code.specs.declared.code.Code.{Code}
use Rattle.vcm_console.specs.declared.reply.ServeFault.{ServeFault}
use Rattle.vcm_debug.specs.Debugging.{Debugging, opened}
use Rattle.vcm_debug.specs.Serving.{Served}
use Rattle.std.proofs.KnownBytes.{Keeps-refl}
use Rattle.vcm_job.specs.declared.reading.ReadFault.{ReadFault}
use Rattle.vcm_job.specs.declared.reading.ReadFault.TheVariants as read_faults
use Rattle.vcm_job.specs.Reading.{IsReadFault}
use Rattle.vcm_job.specs.Unread.{not_read}
use Rattle.vcm_job.specs.Debugged.{IsSession, IsServedOn, IsInputImage, IsDebugged, IsCutShort, IsNotDebugged}

-- what a session at the start served
pub session_of : (part : Workpiece) (code : Code) (known after old new : Option (List ℕ)) (r s : Result (Unit {0}) ServeFault) (first last : Debugging) → first ≡ opened part code → r ≡ s
    → IfSome known (λ input. Served 10000 1048576 first input after old new r last) → IfSome known (λ lines. IsSession part code lines after old new s)
session_of part code None after old new r s first last e f h = tt
session_of part code (Some input) after old new r s first last e f h =
    (last, subst (λ q. Served 10000 1048576 (opened part code) input after old new q last) f (subst (λ d. Served 10000 1048576 d input after old new r last) e h))

-- a session on the image of an input, to its end
pub debugged_of : (part : Workpiece) (input image : List ℕ) (notices : List Noticed) (known after old new : Option (List ℕ)) (v : Unit {0}) → IsInputImage input image notices
    → IfSome known (λ lines. IsServedOn part image lines after old new (Ok v)) → IfSome known (λ lines. IsDebugged part input lines after notices old new)
debugged_of part input image notices None after old new v i s = tt
debugged_of part input image notices (Some lines) after old new v i s = record { image = image; image_is = i; served = s }

-- the same, to its fault
pub cut_short_of : (part : Workpiece) (input image : List ℕ) (notices : List Noticed) (known after old new : Option (List ℕ)) (e : ServeFault) → IsInputImage input image notices
    → IfSome known (λ lines. IsServedOn part image lines after old new (Err e)) → IfSome known (λ lines. IsCutShort part input lines after e old new)
cut_short_of part input image notices None after old new e i s = tt
cut_short_of part input image notices (Some lines) after old new e i s = record { image = image; notices = notices; image_is = i; served = s }

-- the input wasn't read whole
pub debug_unread : (part : Workpiece) (a b known after : Option (List ℕ)) (f : ReadFault) (old : Option (List ℕ)) → IsReadFault a b f
    → IsNotDebugged part a b known after (not_read f) old old
debug_unread part a b known after read_faults.NoMemory old h = (tt, Keeps-refl old)
debug_unread part a b known after read_faults.Device old h = (h, Keeps-refl old)
debug_unread part a b known after read_faults.TooLong old h = (h, Keeps-refl old)
