-- Views of runs: what a view tells, and what becomes of it where a run or a write is cut short.
use Rattle.std.specs.Prelude.{ℕ, List, Option, IfSome}
use Rattle.std.specs.Io.KnownBytes.{Appends, Keeps}
use Rattle.vcm_num.specs.Written.{AppendsFront}
use Rattle.vcm_spec.specs.Workpiece.{Workpiece}
use Rattle.vcm_program.specs.declared.accepted.Noticed.{Noticed}
use Rattle.vcm_code.specs.declared.code.Code.{Code}
use Rattle.vcm_image.specs.Whole.{code_at}
use Rattle.vcm_loader.specs.Loading.{LoadFault}
use Rattle.vcm_job.specs.declared.fault.Fault.{Fault}
use Rattle.vcm_job.specs.declared.fault.Fault.TheVariants.{Refused, NoMemory, Memory, Write}
use Rattle.vcm_job.specs.declared.fault.InputRefusal.{InputRefusal}
use Rattle.vcm_job.specs.declared.fault.InputRefusal.TheVariants.{Image}
use Rattle.vcm_job.specs.Unanswered.{IsUnwritten}
use Rattle.vcm_job.specs.Inputs.{IsInputRefusal}
use Rattle.vcm_job.specs.Given.{IsImageOf, IsCodeOf, text_of}

-- a view of a code beside a workpiece, in a run for at most n steps. `tells`: of a code with this program text, if there is one, and these lines without
-- effect the view has this text and this exit status. `halted`: memory was refused to the run of such a code after so many steps, and this is what its writer had
-- before and has after it
pub record RunView : Type 1 where
  pub tells : (program : Option (List ℕ)) → List Noticed → Workpiece → Code → (n : ℕ) → (text : List ℕ) → (status : ℕ) → Type 0
  pub halted : (program : Option (List ℕ)) → Workpiece → Code → (n done : ℕ) → (old new : Option (List ℕ)) → Type 0

-- it was written and nothing else, and this is the exit status
pub record IsViewed (view : RunView) (program : Option (List ℕ)) (notices : List Noticed) (part : Workpiece) (c : Code) (n status : ℕ) (old new : Option (List ℕ)) : Type 0 where
  pub text : List ℕ
  pub tells : view.tells program notices part c n text status
  pub written : Appends old new text

-- a front of a view was written, and not all of it
pub record IsCutOff (view : RunView) (program : Option (List ℕ)) (notices : List Noticed) (part : Workpiece) (c : Code) (n : ℕ) (old new : Option (List ℕ)) : Type 0 where
  pub text : List ℕ
  pub status : ℕ
  pub tells : view.tells program notices part c n text status
  pub front : AppendsFront old new text

-- why no whole view was written: memory was refused in the run, after so many steps; or before it or for the view itself, and nothing was written; or a
-- write failed
abbrev pub IsCutShort : RunView → Option (List ℕ) → List Noticed → Workpiece → Code → ℕ → Fault InputRefusal → Option (List ℕ) → Option (List ℕ) → Type 0
IsCutShort view program notices part c n (Memory done) old new = view.halted program part c n done old new
IsCutShort view program notices part c n NoMemory old new = Keeps old new
IsCutShort view program notices part c n (Write done) old new = IsCutOff view program notices part c n old new
IsCutShort view program notices part c n _ old new = ⊥

-- a view of an image's code was written, and nothing else
pub record IsImageViewed (view : RunView) (program : Option (List ℕ)) (notices : List Noticed) (part : Workpiece) (image : List ℕ) (n status : ℕ) (old new : Option (List ℕ)) : Type 0 where
  pub code : Code
  pub is_code : IsImageOf image code
  pub viewed : IsViewed view program notices part code n status old new

-- no whole view was, for a fault in its run
pub record IsImageCutShort (view : RunView) (program : Option (List ℕ)) (notices : List Noticed) (part : Workpiece) (image : List ℕ) (n : ℕ) (f : Fault InputRefusal) (old new : Option (List ℕ)) : Type 0 where
  pub code : Code
  pub is_code : IsImageOf image code
  pub cut_short : IsCutShort view program notices part code n f old new

-- why no whole view of an image was written: it is refused, and nothing was written; or a fault in its run
abbrev pub IsImageNotViewed : RunView → Option (List ℕ) → List Noticed → Workpiece → List ℕ → ℕ → Fault InputRefusal → Option (List ℕ) → Option (List ℕ) → Type 0
IsImageNotViewed view program notices part image n (Refused (Image e)) old new = LoadFault (code_at image) e × Keeps old new
IsImageNotViewed view program notices part image n f old new = IsImageCutShort view program notices part image n f old new

-- a view of an input was written and nothing else, with this exit status and these notices
pub record IsShown (view : RunView) (part : Workpiece) (input : List ℕ) (n status : ℕ) (notices : List Noticed) (old new : Option (List ℕ)) : Type 0 where
  pub code : Code
  pub is_code : IsCodeOf input code notices
  pub viewed : IsViewed view (text_of input) notices part code n status old new

-- no whole view was written, for a fault in the run of the input
pub record IsNotShown (view : RunView) (part : Workpiece) (input : List ℕ) (n : ℕ) (f : Fault InputRefusal) (old new : Option (List ℕ)) : Type 0 where
  pub code : Code
  pub notices : List Noticed
  pub is_code : IsCodeOf input code notices
  pub cut_short : IsCutShort view (text_of input) notices part code n f old new

-- why no whole view of an input was written, before and after reading it: a fault in its run; or memory, the reader, its length or a refusal, and
-- nothing was written
abbrev pub IsNoView : RunView → Workpiece → ℕ → Option (List ℕ) → Option (List ℕ) → Fault InputRefusal → Option (List ℕ) → Option (List ℕ) → Type 0
IsNoView view part n before after f old new =
    IsUnwritten IsInputRefusal (λ done old new. IfSome before (λ input. IsNotShown view part input n (Memory done) old new))
    (λ done old new. IfSome before (λ input. IsNotShown view part input n (Write done) old new)) before after f old new
