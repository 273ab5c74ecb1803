-- What the run of an input gives, beside a workpiece.
use Rattle.std.specs.Prelude.{◌≡◌, ℕ, Bool, true, false, List, take, Option, IfSome, codes}
use Rattle.std.specs.Str.{bytes_eq}
use Rattle.std.specs.Io.KnownBytes.{Appends, Keeps}
use Rattle.vcm_num.specs.Written.{AppendsFront}
use Rattle.vcm_spec.specs.Workpiece.{Workpiece}
use Rattle.vcm_program.specs.declared.accepted.Noticed.{Noticed}
use Rattle.vcm_machine.specs.declared.ran.End.TheVariants as ends
use Rattle.vcm_image.specs.Whole.{code_at}
use Rattle.vcm_loader.specs.Loading.{LoadFault}
use Rattle.vcm_run.specs.Programs.{IsSummary, IsRefusal}
use Rattle.vcm_run.specs.Images.{IsImageRun}
use Rattle.vcm_run.specs.Summaries.{Shown}
use Rattle.vcm_run.specs.Printed.{result_text}
use Rattle.vcm_job.specs.declared.fault.Fault.{Fault}
use Rattle.vcm_job.specs.declared.fault.InputRefusal.{InputRefusal}
use Rattle.vcm_job.specs.declared.fault.InputRefusal.TheVariants.{Text, Image}
use Rattle.vcm_job.specs.Unanswered.{IsUnwritten}
use Rattle.vcm_job.specs.Jobs.{status_of}

-- whether an input is an image: its first four bytes are `VCMI`
abbrev pub is_image : List ℕ → Bool
is_image input = bytes_eq (take 4 input) (codes "VCMI")

-- of an image its run, of any other input the run of the program that its text is
abbrev pub RunAs : Bool → Workpiece → List ℕ → ℕ → Shown → Type 0
RunAs true part input n s = IsImageRun part input n s
RunAs false part input n s = IsSummary part input n s

-- this is a run of the input for n steps
abbrev pub IsInputRun : Workpiece → List ℕ → ℕ → Shown → Type 0
IsInputRun part input n s = RunAs (is_image input) part input n s

-- what refuses an input: it is an image and refused, or a text and refused; or memory was refused
abbrev pub IsInputRefusal : List ℕ → InputRefusal → Type 0
IsInputRefusal input (Text r) = (is_image input ≡ false) × IsRefusal input r
IsInputRefusal input (Image e) = (is_image input ≡ true) × LoadFault (code_at input) e

-- the result of a run of the input was written and nothing else, and this is its status; the run wasn't refused memory
pub record IsWritten (part : Workpiece) (input : List ℕ) (n : ℕ) (status : ℕ) (notices : List Noticed) (old new : Option (List ℕ))
    : Type 0 where
  pub shown : Shown
  pub run : IsInputRun part input n shown
  pub ample : shown.ran.end ≡ ends.NoMemory → ⊥
  pub status_is : status ≡ status_of shown.held.state.stop
  pub notices_are : notices ≡ shown.notices
  pub written : Appends old new (result_text shown.held shown.ran.done)

-- a run of the input was refused memory after so many steps
pub record IsHaltedRun (part : Workpiece) (input : List ℕ) (n done : ℕ) : Type 0 where
  pub shown : Shown
  pub run : IsInputRun part input n shown
  pub halted : shown.ran.end ≡ ends.NoMemory
  pub count : done ≡ shown.ran.done

-- a front of the result of a run was written, and not all of it, after so many steps
pub record IsRunCutOff (part : Workpiece) (input : List ℕ) (n done : ℕ) (old new : Option (List ℕ)) : Type 0 where
  pub shown : Shown
  pub run : IsInputRun part input n shown
  pub ample : shown.ran.end ≡ ends.NoMemory → ⊥
  pub count : done ≡ shown.ran.done
  pub front : AppendsFront old new (result_text shown.held shown.ran.done)

-- why no whole result was written: a failed write cut it off; or memory, the reader, its length or a refusal, and nothing was written
abbrev pub IsNotWritten : Workpiece → ℕ → Option (List ℕ) → Option (List ℕ) → Fault InputRefusal → Option (List ℕ) → Option (List ℕ) → Type 0
IsNotWritten part n before after f old new =
    IsUnwritten IsInputRefusal (λ done old new. IfSome before (λ input. IsHaltedRun part input n done) × Keeps old new)
    (λ done old new. IfSome before (λ input. IsRunCutOff part input n done old new)) before after f old new
