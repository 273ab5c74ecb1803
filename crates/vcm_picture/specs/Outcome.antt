-- What the writing of a picture did.
use Rattle.std.specs.Prelude.{ℕ, List, Option, Result, Ok, Err}
use Rattle.std.specs.Io.KnownBytes.{Appends, Keeps}
use Rattle.vcm_num.specs.Written.{AppendsFront}
use Rattle.vcm_picture.specs.declared.picture.PictureFault.{PictureFault}
use Rattle.vcm_picture.specs.declared.picture.PictureFault.TheVariants.{NoMemory, Write}

-- the writer took all of the bytes; or nothing, where memory was refused; or a front of them that is not all, where it failed
abbrev pub IsPicture : {A : Type 0} → Option (List ℕ) → Option (List ℕ) → List ℕ → Result A PictureFault → Type 0
IsPicture old new bytes (Ok done) = Appends old new bytes
IsPicture old new bytes (Err NoMemory) = Keeps old new
IsPicture old new bytes (Err Write) = AppendsFront old new bytes
