-- Statements about runs. Each is the contract of a law in src/laws.rt.
use Rattle.std.specs.Prelude.{◌≡◌, ◌≢◌, ℕ, List}
use Rattle.vcm_lines.specs.declared.fault.SourceFault.{SourceFault}
use Rattle.vcm_lines.specs.Fault.{no_memory}
use Rattle.vcm_spec.specs.Workpiece.{Workpiece, IsValid}
use Rattle.vcm_spec.specs.Rests.{Rests}
use Rattle.vcm_tree.specs.Acceptance.{IsAccepted}
use Rattle.vcm_program.specs.Program.{Parsed}
use Rattle.vcm_program.specs.declared.accepted.Noticed.{Noticed}
use Rattle.vcm_code.specs.declared.code.Code.{Code}
use Rattle.vcm_fields.specs.declared.fault.ImageFault.{ImageFault}
use Rattle.vcm_fields.specs.declared.fault.ImageFault.TheVariants as image_faults
use Rattle.vcm_image.specs.Whole.{FitsImage, spelling}
use Rattle.vcm_asm.specs.Simulation.{IsAssembled}
use Rattle.vcm_machine.specs.declared.ran.End.TheVariants.{NoMemory}
use Rattle.vcm_machine.specs.declared.ran.Ran.{Ran}
use Rattle.vcm_machine.specs.Running.{Running, started, HaveRun}
use Rattle.vcm_run.specs.Summaries.{Shown}
use Rattle.vcm_run.specs.declared.run.Refusal.{Refusal}
use Rattle.vcm_run.specs.declared.run.Refusal.TheVariants as refusals
use Rattle.vcm_run.specs.Images.{IsImageRun, IsImageRefusal}
use Rattle.vcm_run.specs.Programs.{IsSummary, IsRefusal}
use Rattle.vcm_run.specs.Built.{IsBuilt}

-- what a machine shows behind runs of a program that has these lines without effect
abbrev pub shown_by : Running → Ran → List Noticed → Shown
shown_by m ran notices = record { held = record { tables = m.code.tables; state = m.state.world }; next = m.state.next; ran = ran; notices = notices }

-- take a text that is accepted as a program, a code that this is assembled to, its image, any code with this image, and a machine that has run this
-- one from its start, for n steps in one run or in several: it shows what a summary of the text shows
abbrev pub CallsShowTheProgram : Type 0
CallsShowTheProgram = (part : Workpiece) (text : List ℕ) (parsed : Parsed) (written loaded : Code) (n : ℕ) (m : Running) (ran : Ran)
    → IsAccepted text parsed → IsAssembled parsed.program parsed.tables written
    → FitsImage written → FitsImage loaded → spelling written ≡ spelling loaded
    → HaveRun n (started part loaded) m ran → IsSummary part text n (shown_by m ran parsed.notices)

-- on a valid workpiece the probe is at rest in what a summary shows
abbrev pub SummariesRest : Type 0
SummariesRest = (part : Workpiece) (text : List ℕ) (n : ℕ) (s : Shown) → IsValid part → IsSummary part text n s → Rests part s.held.state

-- two runs of one text beside one workpiece, for as many steps, neither of which memory cut short, show the same
abbrev pub SummariesAreOne : Type 0
SummariesAreOne =
    (part : Workpiece) (text : List ℕ) (n : ℕ) (s t : Shown) → IsSummary part text n s → IsSummary part text n t → s.ran.end ≢ NoMemory
    → t.ran.end ≢ NoMemory → s ≡ t

-- and two of one image
abbrev pub ImageRunsAreOne : Type 0
ImageRunsAreOne =
    (part : Workpiece) (bytes : List ℕ) (n : ℕ) (s t : Shown) → IsImageRun part bytes n s → IsImageRun part bytes n t → s.ran.end ≢ NoMemory
    → t.ran.end ≢ NoMemory → s ≡ t

-- a text has one image and one list of notices
abbrev pub BuildsAreOne : Type 0
BuildsAreOne =
    (text image other : List ℕ) (notices more : List Noticed) → IsBuilt text image notices → IsBuilt text other more
    → (image ≡ other) × (notices ≡ more)

-- memory was refused, in acceptance or behind it
abbrev pub IsWant : Refusal → Type 0
IsWant (refusals.Source f) = f ≡ no_memory
IsWant (refusals.Part f) = ⊥
IsWant refusals.NoMemory = Unit {0}

-- a text that is refused for another cause than memory is not built
abbrev pub RefusedIsNotBuilt : Type 0
RefusedIsNotBuilt =
    (text image : List ℕ) (notices : List Noticed) (r : Refusal) → IsRefusal text r → ¬ IsWant r → ¬ IsBuilt text image notices

-- and not run
abbrev pub RefusedIsNotRun : Type 0
RefusedIsNotRun =
    (part : Workpiece) (text : List ℕ) (n : ℕ) (s : Shown) (r : Refusal) → IsRefusal text r → ¬ IsWant r → ¬ IsSummary part text n s

-- nor is an image
abbrev pub RefusedImageIsNotRun : Type 0
RefusedImageIsNotRun =
    (part : Workpiece) (bytes : List ℕ) (n : ℕ) (s : Shown) (e : ImageFault) → IsImageRefusal bytes e → e ≢ image_faults.NoMemory
    → ¬ IsImageRun part bytes n s

-- two refusals of a text for other causes than memory are told at one line
abbrev pub RefusedAtOneLine : Type 0
RefusedAtOneLine =
    (text : List ℕ) (f g : SourceFault) → IsRefusal text (refusals.Source f) → IsRefusal text (refusals.Source g) → f ≢ no_memory
    → g ≢ no_memory → f.line ≡ g.line

-- two of an image are one
abbrev pub ImageRefusalsAreOne : Type 0
ImageRefusalsAreOne =
    (bytes : List ℕ) (d e : ImageFault) → IsImageRefusal bytes d → IsImageRefusal bytes e → d ≢ image_faults.NoMemory
    → e ≢ image_faults.NoMemory → d ≡ e
