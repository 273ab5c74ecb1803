-- The image of a program's text.
use Rattle.std.specs.Prelude.{◌≡◌, ℕ, List}
use Rattle.vcm_forms.specs.declared.statement.Statement.{Statement}
use Rattle.vcm_macro.specs.declared.placed.Placed.{Placed}
use Rattle.vcm_tree.specs.Acceptance.{IsAcceptedPlaced, IsAcceptedFrom, IsAccepted}
use Rattle.vcm_program.specs.Program.{Parsed}
use Rattle.vcm_program.specs.declared.accepted.Noticed.{Noticed}
use Rattle.vcm_code.specs.declared.code.Code.{Code}
use Rattle.vcm_code.specs.Valid.{IsValid}
use Rattle.vcm_image.specs.Whole.{FitsImage, spelling}
use Rattle.vcm_asm.specs.Simulation.{IsAssembled}

-- the bytes are the image of the code of this program: a code that does what the program does, and is valid
pub record IsImageOf (parsed : Parsed) (bytes : List ℕ) : Type 0 where
  pub code : Code
  pub assembled : IsAssembled parsed.program parsed.tables code
  pub valid : IsValid code
  pub fits : FitsImage code
  pub spelled : bytes ≡ spelling code

-- the statements are accepted as a program, whose image the bytes are, and these are its notices
pub record IsBuiltFrom (ss : List Statement) (bytes : List ℕ) (notices : List Noticed) : Type 0 where
  pub parsed : Parsed
  pub accepted : IsAcceptedFrom ss parsed
  pub image : IsImageOf parsed bytes
  pub notices_are : notices ≡ parsed.notices

-- the expanded statements are accepted as a program, whose image the bytes are, and these are its notices, those of the written statements
pub record IsBuiltPlaced (ss : List Statement) (all : List Placed) (bytes : List ℕ) (notices : List Noticed) : Type 0 where
  pub parsed : Parsed
  pub accepted : IsAcceptedPlaced ss all parsed
  pub image : IsImageOf parsed bytes
  pub notices_are : notices ≡ parsed.notices

-- the text is accepted as a program, whose image the bytes are, and these are its notices
pub record IsBuilt (text bytes : List ℕ) (notices : List Noticed) : Type 0 where
  pub parsed : Parsed
  pub accepted : IsAccepted text parsed
  pub image : IsImageOf parsed bytes
  pub notices_are : notices ≡ parsed.notices
