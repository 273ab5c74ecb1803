-- What one call of a command answers to a known input: the clauses of its contract. `rest` is what of the input is left behind the call, `old` and
-- `new` are what its writer had before and has behind it.
use Rattle.std.specs.Prelude.{◌≡◌, ℕ, ◌≤◌, List, length, Option, Some, Result, Ok, Err, IfOk, IfErr}
use Rattle.std.specs.Option.{option_map}
use Rattle.std.specs.Global.{Vec}
use Rattle.vcm_spec.specs.Workpiece.{Workpiece}
use Rattle.vcm_program.specs.declared.accepted.Noticed.{Noticed}
use Rattle.vcm_lines.specs.declared.fault.SourceFault.{SourceFault}
use Rattle.vcm_part.specs.declared.fault.PartFault.{PartFault}
use Rattle.vcm_words.specs.declared.fault.ListFault.{ListFault}
use Rattle.vcm_run.specs.declared.run.Refusal.{Refusal}
use Rattle.vcm_run.specs.declared.program.Built.{Built}
use Rattle.vcm_run.specs.Built.{IsBuilt}
use Rattle.vcm_job.specs.declared.reading.ReadFault.{ReadFault}
use Rattle.vcm_job.specs.declared.running.Done.{Done}
use Rattle.vcm_job.specs.declared.fault.Fault.{Fault}
use Rattle.vcm_job.specs.declared.fault.InputRefusal.{InputRefusal}
use Rattle.vcm_job.specs.Reading.{most_bytes, IsReadFault}
use Rattle.vcm_job.specs.Unread.{AnswersUnread}
use Rattle.vcm_job.specs.Results.{IsDone, IsNotDone}
use Rattle.vcm_job.specs.Inputs.{IsWritten, IsNotWritten}
use Rattle.vcm_job.specs.Views.{RunView, IsShown, IsNoView}
use Rattle.vcm_job.specs.Files.{IsPartIn, IsNoPart, IsNotBuilt}
use Rattle.vcm_job.specs.Checks.{IsChecked, IsNotChecked}
use Rattle.vcm_job.specs.Listings.{IsPrinted, IsWrittenOut, IsNotListed, IsNotAssembled}
use Rattle.vcm_job.specs.Causes.{Cause, text_cause, listing_cause, part_cause, refusal_cause, input_cause, read_cause, fault_cause}

-- of any command, of which this says what it gives, and why it gives nothing
pub record IsAnswer {A R : Type 0} (gives : A → Type 0) (fails : Fault R → Type 0) (input : List ℕ) (r : Result A (Fault R)) : Type 0 where
  pub done : IfOk r gives
  pub fault : IfErr r fails
  pub long : AnswersUnread (Some input) r

-- a job
abbrev pub IsJobAnswer : List ℕ → Result Done (Fault Refusal) → Option (List ℕ) → Option (List ℕ) → Option (List ℕ) → Type 0
IsJobAnswer input r rest old new =
    IsAnswer (λ d. IsDone input d.status d.notices.items old new) (λ f. IsNotDone (Some input) rest f old new) input r

-- a run of an input beside a workpiece, for at most n steps
abbrev pub IsRunAnswer : Workpiece → ℕ → List ℕ → Result Done (Fault InputRefusal) → Option (List ℕ) → Option (List ℕ) → Option (List ℕ) → Type 0
IsRunAnswer part n input r rest old new =
    IsAnswer (λ d. IsWritten part input n d.status d.notices.items old new) (λ f. IsNotWritten part n (Some input) rest f old new) input r

-- a view of a run of an input beside a workpiece, for at most n steps
abbrev pub IsViewAnswer : RunView → Workpiece → ℕ → List ℕ → Result Done (Fault InputRefusal) → Option (List ℕ) → Option (List ℕ) → Option (List ℕ) → Type 0
IsViewAnswer view part n input r rest old new =
    IsAnswer (λ d. IsShown view part input n d.status d.notices.items old new) (λ f. IsNoView view part n (Some input) rest f old new) input r

-- the image of a program
abbrev pub IsBuildAnswer : List ℕ → Result Built (Fault Refusal) → Option (List ℕ) → Type 0
IsBuildAnswer text r rest = IsAnswer (λ b. IsBuilt text b.image.items b.notices.items) (λ f. IsNotBuilt (Some text) rest f) text r

-- the check of a program
abbrev pub IsCheckAnswer : List ℕ → Result (Vec Noticed) (Fault SourceFault) → Option (List ℕ) → Option (List ℕ) → Option (List ℕ) → Type 0
IsCheckAnswer text r rest old new = IsAnswer (λ v. IsChecked text v.items old new) (λ f. IsNotChecked (Some text) rest f old new) text r

-- the listing of an input
abbrev pub IsListAnswer : List ℕ → Result (Vec Noticed) (Fault InputRefusal) → Option (List ℕ) → Option (List ℕ) → Option (List ℕ) → Type 0
IsListAnswer input r rest old new = IsAnswer (λ v. IsWrittenOut input v.items old new) (λ f. IsNotListed (Some input) rest f old new) input r

-- the image of a listing
abbrev pub IsAsmAnswer : List ℕ → Result (Vec ℕ) (Fault ListFault) → Option (List ℕ) → Type 0
IsAsmAnswer text r rest = IsAnswer (λ v. IsPrinted v.items text) (λ f. IsNotAssembled (Some text) rest f) text r

-- the workpiece of a part file
abbrev pub IsPartAnswer : List ℕ → Result Workpiece (Fault PartFault) → Option (List ℕ) → Type 0
IsPartAnswer file r rest = IsAnswer (λ p. IsPartIn file p) (λ f. IsNoPart (Some file) rest f) file r

-- an input read whole
pub record IsReadAnswer (input : List ℕ) (r : Result (Vec ℕ) ReadFault) (rest : Option (List ℕ)) : Type 0 where
  pub all : IfOk r (λ v. v.items ≡ input)
  pub short : IfOk r (λ v. length v.items ≤ most_bytes)
  pub fault : IfErr r (IsReadFault (Some input) rest)

-- what an answer tells of the input: what it gives, or the cause of its fault; nothing, where memory was refused or a device failed
abbrev pub told : {A F B : Type 0} → (A → B) → (F → Option Cause) → Result A F → Option (Result B Cause)
told given cause (Ok a) = Some (Ok (given a))
told given cause (Err f) = option_map Err (cause f)

-- the exit status and the notices of a run
abbrev pub status_and_notices : Done → ℕ × List Noticed
status_and_notices d = (d.status, d.notices.items)

-- an image and the notices of its program
abbrev pub image_and_notices : Built → List ℕ × List Noticed
image_and_notices b = (b.image.items, b.notices.items)

-- what each command's answer tells
abbrev pub job_told : Result Done (Fault Refusal) → Option (Result (ℕ × List Noticed) Cause)
job_told r = told status_and_notices (fault_cause refusal_cause) r

abbrev pub run_told : Result Done (Fault InputRefusal) → Option (Result (ℕ × List Noticed) Cause)
run_told r = told status_and_notices (fault_cause input_cause) r

abbrev pub build_told : Result Built (Fault Refusal) → Option (Result (List ℕ × List Noticed) Cause)
build_told r = told image_and_notices (fault_cause refusal_cause) r

abbrev pub check_told : Result (Vec Noticed) (Fault SourceFault) → Option (Result (List Noticed) Cause)
check_told r = told (λ v. v.items) (fault_cause text_cause) r

abbrev pub list_told : Result (Vec Noticed) (Fault InputRefusal) → Option (Result (List Noticed) Cause)
list_told r = told (λ v. v.items) (fault_cause input_cause) r

abbrev pub asm_told : Result (Vec ℕ) (Fault ListFault) → Option (Result (List ℕ) Cause)
asm_told r = told (λ v. v.items) (fault_cause listing_cause) r

abbrev pub part_told : Result Workpiece (Fault PartFault) → Option (Result Workpiece Cause)
part_told r = told (λ p. p) (fault_cause part_cause) r

abbrev pub read_told : Result (Vec ℕ) ReadFault → Option (Result (List ℕ) Cause)
read_told r = told (λ v. v.items) read_cause r
