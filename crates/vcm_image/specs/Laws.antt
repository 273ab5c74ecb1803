-- Statements about images. Each is the contract of a law in src/laws.rt.
use Rattle.std.specs.Prelude.{◌≡◌, ◌≢◌, ℕ, ◌<◌, ◌⊎◌, List, get_or, Ok, Err}
use Rattle.vcm_code.specs.declared.code.Code.{Code}
use Rattle.vcm_fields.specs.declared.fault.ImageFault.{ImageFault}
use Rattle.vcm_image.specs.Whole.{FitsImage, spelling, code_at}

-- the spelling of a code that fits is read as that code
abbrev pub WrittenIsRead : Type 0
WrittenIsRead = (c : Code) → FitsImage c → code_at (spelling c) ≡ Ok c

-- codes that fit and have the same spelling are the same
abbrev pub CodesHaveOneImage : Type 0
CodesHaveOneImage = (c d : Code) → FitsImage c → FitsImage d → spelling c ≡ spelling d → c ≡ d

-- these are bytes
abbrev pub AreBytes : List ℕ → Type 0
AreBytes bytes = (i : ℕ) → get_or bytes i 0 < 256

-- the reading of other bytes than the spelling of a code is a refusal, or another code, whose spelling they are
abbrev pub ChangesAreRefusedOrOther : Type 0
ChangesAreRefusedOrOther = (c : Code) (bytes : List ℕ) → AreBytes bytes → bytes ≢ spelling c
    → ((e : ImageFault) × (code_at bytes ≡ Err e)) ⊎ ((d : Code) × FitsImage d × (bytes ≡ spelling d) × (d ≢ c))
