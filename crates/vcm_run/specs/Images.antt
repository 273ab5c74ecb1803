-- What the run of an image gives.
use Rattle.std.specs.Prelude.{◌≡◌, ℕ, ◌<◌, List, [], length}
use Rattle.vcm_spec.specs.Workpiece.{Workpiece}
use Rattle.vcm_code.specs.declared.code.Code.{Code}
use Rattle.vcm_code.specs.Valid.{IsValid}
use Rattle.vcm_fields.specs.declared.fault.ImageFault.{ImageFault}
use Rattle.vcm_image.specs.Whole.{FitsImage, spelling, code_at}
use Rattle.vcm_loader.specs.Loading.{LoadFault}
use Rattle.vcm_machine.specs.Running.{Running, started, HasRun}
use Rattle.vcm_run.specs.Summaries.{Shown}

-- the summary shows a machine that has run the code for n steps from its start, and the next statement is one of the code
pub record IsCodeRun (part : Workpiece) (c : Code) (n : ℕ) (s : Shown) : Type 0 where
  pub tables_are : s.held.tables ≡ c.tables
  pub machine : Running
  pub has_run : HasRun n (started part c) machine s.ran
  pub world_is : s.held.state ≡ machine.state.world
  pub next_is : s.next ≡ machine.state.next
  pub within : s.next < length c.statements

-- the bytes are the image of a valid code, and this is a run of it for n steps, without notices
pub record IsImageRun (part : Workpiece) (bytes : List ℕ) (n : ℕ) (s : Shown) : Type 0 where
  pub code : Code
  pub valid : IsValid code
  pub fits : FitsImage code
  pub spelled : bytes ≡ spelling code
  pub run : IsCodeRun part code n s
  pub notices : s.notices ≡ []

-- why an image isn't run: it is refused by the loader. Of want of memory nothing is said
abbrev pub IsImageRefusal : List ℕ → ImageFault → Type 0
IsImageRefusal bytes e = LoadFault (code_at bytes) e
