-- What the writing of a sheet did.
use Rattle.std.specs.Prelude.{ℕ, List, Option, Result, Ok, Err}
use Rattle.std.specs.Io.KnownBytes.{Appends, Keeps}
use Rattle.vcm_num.specs.Written.{AppendsFront}
use Rattle.vcm_picture.specs.declared.picture.PictureFault.{PictureFault}
use Rattle.vcm_picture.specs.declared.picture.PictureFault.TheVariants.{NoMemory, Write}
use Rattle.vcm_sheet.specs.Sayings.{Saying, Says}

-- a text that says this, of which that holds
pub record SaidIn (said : List Saying) (Holds : List ℕ → Type 0) : Type 0 where
  pub text : List ℕ
  pub says : Says said text
  pub holds : Holds text

-- the writer took all of a text that says this, and nothing else; or nothing, where memory was refused; or a front of such a text that is not all, where it
-- failed
abbrev pub IsFiled : {A : Type 0} → List Saying → Option (List ℕ) → Option (List ℕ) → Result A PictureFault → Type 0
IsFiled said old new (Ok done) = SaidIn said (Appends old new)
IsFiled said old new (Err NoMemory) = Keeps old new
IsFiled said old new (Err Write) = SaidIn said (AppendsFront old new)
