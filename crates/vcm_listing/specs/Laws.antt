-- Statements about listings. Each is the contract of a law in src/laws.rt.
use Rattle.std.specs.Prelude.{◌≡◌, ℕ, List, Ok}
use Rattle.vcm_code.specs.declared.code.Code.{Code}
use Rattle.vcm_code.specs.Valid.{IsValid}
use Rattle.vcm_image.specs.Whole.{FitsImage, spelling}
use Rattle.vcm_words.specs.declared.fault.ListFault.{ListFault}
use Rattle.vcm_words.specs.Rows.{listing}
use Rattle.vcm_words.specs.Listing.{code_listed}
use Rattle.vcm_words.specs.Outcomes.{ListingFault}

-- the listing of a code that is in range is read as that code
abbrev pub ListingIsRead : Type 0
ListingIsRead = (c : Code) → FitsImage c → code_listed (listing c) ≡ Ok c

-- what is read as a code is in range, and is its listing, byte for byte
abbrev pub ReadIsListing : Type 0
ReadIsListing = (bytes : List ℕ) (c : Code) → code_listed bytes ≡ Ok c → FitsImage c × (bytes ≡ listing c)

-- codes in range that have the same listing are the same
abbrev pub ListingsDiffer : Type 0
ListingsDiffer = (c d : Code) → FitsImage c → FitsImage d → listing c ≡ listing d → c ≡ d

-- bytes are refused with one fault only
abbrev pub OneFault : Type 0
OneFault = (bytes : List ℕ) (f g : ListFault) → ListingFault bytes f → ListingFault bytes g → f ≡ g

-- the listing of a valid code in range is not refused
abbrev pub NoneOfValid : Type 0
NoneOfValid = (c : Code) (f : ListFault) → FitsImage c → IsValid c → ¬ ListingFault (listing c) f

-- take the listing of a valid code in range, and the code that it is read as: it is that code, with the same image, and nothing is told of the
-- listing
abbrev pub PrintedIsRead : Type 0
PrintedIsRead = (c d : Code) (f : ListFault) → FitsImage c → IsValid c → FitsImage d → listing c ≡ listing d
    → (d ≡ c) × ((spelling d ≡ spelling c) × ¬ ListingFault (listing c) f)
