-- Statements about the answers of the commands: of two to one input, each of which tells something, both tell the same and wrote the same. Each is a
-- clause of a law in src/laws.rt.
use Rattle.std.specs.Prelude.{◌≡◌, ℕ, List, Option, Some, Result}
use Rattle.std.specs.Io.KnownBytes.{Appends}
use Rattle.vcm_spec.specs.Workpiece.{Workpiece}
use Rattle.vcm_job.specs.Causes.{Cause}
use Rattle.vcm_job.specs.Views.{RunView}
use Rattle.vcm_job.specs.Answers.{IsJobAnswer, IsRunAnswer, IsViewAnswer, IsBuildAnswer, IsCheckAnswer, IsListAnswer, IsAsmAnswer, IsPartAnswer, IsReadAnswer}
use Rattle.vcm_job.specs.Answers.{job_told, run_told, build_told, check_told, list_told, asm_told, part_told, read_told}

-- two writers took the same bytes, and nothing else
abbrev pub WroteTheSame : Option (List ℕ) → Option (List ℕ) → Option (List ℕ) → Option (List ℕ) → Type 0
WroteTheSame old new other now = (bytes : List ℕ) × Appends old new bytes × Appends other now bytes

-- of two answers of a command that writes, each of which tells something, both tell the same and wrote the same
abbrev pub AreOne : {A B F : Type 0} → (Result A F → Option (List ℕ) → Option (List ℕ) → Option (List ℕ) → Type 0)
    → (Result A F → Option (Result B Cause)) → Type 0
AreOne {A} {B} {F} answers tells =
    (r s : Result A F) (rest left old new other now : Option (List ℕ)) (x y : Result B Cause) → answers r rest old new → answers s left other now
    → tells r ≡ Some x → tells s ≡ Some y → (x ≡ y) × WroteTheSame old new other now

-- of two answers of a command that writes nothing, each of which tells something, both tell the same
abbrev pub TellOne : {A B F : Type 0} → (Result A F → Option (List ℕ) → Type 0) → (Result A F → Option (Result B Cause)) → Type 0
TellOne {A} {B} {F} answers tells =
    (r s : Result A F) (rest left : Option (List ℕ)) (x y : Result B Cause) → answers r rest → answers s left → tells r ≡ Some x → tells s ≡ Some y
    → x ≡ y

-- answers to one job
abbrev pub JobAnswersAreOne : Type 0
JobAnswersAreOne = (input : List ℕ) → AreOne (IsJobAnswer input) job_told

-- runs of one input beside one workpiece, for as many steps
abbrev pub RunAnswersAreOne : Type 0
RunAnswersAreOne = (part : Workpiece) (n : ℕ) (input : List ℕ) → AreOne (IsRunAnswer part n input) run_told

-- views of one input beside one workpiece, for as many steps
abbrev pub ViewAnswersAreOne : RunView → Workpiece → Type 0
ViewAnswersAreOne view part = (n : ℕ) (input : List ℕ) → AreOne (IsViewAnswer view part n input) run_told

-- images of one text
abbrev pub BuildAnswersAreOne : Type 0
BuildAnswersAreOne = (text : List ℕ) → TellOne (IsBuildAnswer text) build_told

-- checks of one text
abbrev pub CheckAnswersAreOne : Type 0
CheckAnswersAreOne = (text : List ℕ) → AreOne (IsCheckAnswer text) check_told

-- listings of one input
abbrev pub ListAnswersAreOne : Type 0
ListAnswersAreOne = (input : List ℕ) → AreOne (IsListAnswer input) list_told

-- images of one listing
abbrev pub AsmAnswersAreOne : Type 0
AsmAnswersAreOne = (text : List ℕ) → TellOne (IsAsmAnswer text) asm_told

-- workpieces of one part file
abbrev pub PartAnswersAreOne : Type 0
PartAnswersAreOne = (file : List ℕ) → TellOne (IsPartAnswer file) part_told

-- one input read whole
abbrev pub ReadAnswersAreOne : Type 0
ReadAnswersAreOne = (input : List ℕ) → TellOne (IsReadAnswer input) read_told
