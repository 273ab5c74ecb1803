-- A program or an image as it was read, and the code that it is.
use Rattle.std.specs.Prelude.{◌≡◌, Bool, true, false, ℕ, List, [], Option, Some, None}
use Rattle.vcm_program.specs.declared.accepted.Noticed.{Noticed}
use Rattle.vcm_code.specs.declared.code.Code.{Code}
use Rattle.vcm_code.specs.Valid.{IsValid}
use Rattle.vcm_image.specs.Whole.{FitsImage, spelling}
use Rattle.vcm_run.specs.Built.{IsBuilt}
use Rattle.vcm_job.specs.Inputs.{is_image}

-- the bytes are the image of a valid code
pub record IsImageOf (image : List ℕ) (c : Code) : Type 0 where
  pub valid : IsValid c
  pub fits : FitsImage c
  pub spelled : image ≡ spelling c

-- of an image its code, without notices; of any other input the code of the program's image, and the program's lines without effect
abbrev pub CodeAs : Bool → List ℕ → Code → List Noticed → Type 0
CodeAs true input c notices = IsImageOf input c × (notices ≡ [])
CodeAs false input c notices = (image : List ℕ) × (IsBuilt input image notices × IsImageOf image c)

-- this is the code of an input, and these are its notices
abbrev pub IsCodeOf : List ℕ → Code → List Noticed → Type 0
IsCodeOf input c notices = CodeAs (is_image input) input c notices

-- an image has no text; any other input is one
abbrev pub text_as : Bool → List ℕ → Option (List ℕ)
text_as true input = None
text_as false input = Some input

-- the text of a program
abbrev pub text_of : List ℕ → Option (List ℕ)
text_of input = text_as (is_image input) input

-- of an image itself, without notices; of any other input the program's image, and its lines without effect
abbrev pub ImageAs : Bool → (input image : List ℕ) → List Noticed → Type 0
ImageAs true input image notices = (image ≡ input) × (notices ≡ [])
ImageAs false input image notices = IsBuilt input image notices

-- what was read of an input: its image, its text and its notices
pub record IsGiven (input image : List ℕ) (text : Option (List ℕ)) (notices : List Noticed) : Type 0 where
  pub image_is : ImageAs (is_image input) input image notices
  pub text_is : text ≡ text_of input
