-- Listings of inputs, and images of listings.
use Rattle.std.specs.Prelude.{◌≡◌, ℕ, Bool, true, false, List, [], Option, IfSome}
use Rattle.std.specs.Io.KnownBytes.{Appends}
use Rattle.vcm_num.specs.Written.{AppendsFront}
use Rattle.vcm_program.specs.declared.accepted.Noticed.{Noticed}
use Rattle.vcm_code.specs.declared.code.Code.{Code}
use Rattle.vcm_code.specs.Valid.{IsValid}
use Rattle.vcm_image.specs.Whole.{FitsImage, spelling}
use Rattle.vcm_words.specs.declared.fault.ListFault.{ListFault}
use Rattle.vcm_words.specs.Rows.{listing}
use Rattle.vcm_words.specs.Outcomes.{FaultOrWant}
use Rattle.vcm_run.specs.Built.{IsBuilt}
use Rattle.vcm_job.specs.declared.fault.Fault.{Fault}
use Rattle.vcm_job.specs.declared.fault.InputRefusal.{InputRefusal}
use Rattle.vcm_job.specs.Unanswered.{IsUnanswered, IsUnwritten, NeverHalts}
use Rattle.vcm_job.specs.Inputs.{is_image, IsInputRefusal}

-- the bytes are the image of a valid code, and the text is that code's listing
pub record IsPrinted (image text : List ℕ) : Type 0 where
  pub code : Code
  pub valid : IsValid code
  pub fits : FitsImage code
  pub spelled : image ≡ spelling code
  pub listed : text ≡ listing code

-- of an image its listing, without notices; of any other input that of its program's image
abbrev pub ListedAs : Bool → List ℕ → List ℕ → List Noticed → Type 0
ListedAs true input text notices = IsPrinted input text × (notices ≡ [])
ListedAs false input text notices = (image : List ℕ) × (IsBuilt input image notices × IsPrinted image text)

-- this is the listing of an input, and these are its notices
abbrev pub IsListed : List ℕ → List ℕ → List Noticed → Type 0
IsListed input text notices = ListedAs (is_image input) input text notices

-- the listing of an input was written, and nothing else
pub record IsWrittenOut (input : List ℕ) (notices : List Noticed) (old new : Option (List ℕ)) : Type 0 where
  pub text : List ℕ
  pub listed : IsListed input text notices
  pub written : Appends old new text

-- a front of the listing of an input was written, and not all of it
pub record IsListCutOff (input : List ℕ) (old new : Option (List ℕ)) : Type 0 where
  pub text : List ℕ
  pub notices : List Noticed
  pub listed : IsListed input text notices
  pub front : AppendsFront old new text

-- why no whole listing was written: a failed write cut it off; or memory, the reader, its length or a refusal, and nothing was written
abbrev pub IsNotListed : Option (List ℕ) → Option (List ℕ) → Fault InputRefusal → Option (List ℕ) → Option (List ℕ) → Type 0
IsNotListed before after f old new =
    IsUnwritten IsInputRefusal NeverHalts (λ done old new. (done ≡ 0) × IfSome before (λ input. IsListCutOff input old new)) before after f old new

-- why a listing gave no image: it is refused, or memory was refused; or it wasn't read whole
abbrev pub IsNotAssembled : Option (List ℕ) → Option (List ℕ) → Fault ListFault → Type 0
IsNotAssembled before after f = IsUnanswered FaultOrWant before after f
