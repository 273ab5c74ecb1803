-- Statements about loading. Each is the contract of a law in src/laws.rt.
use Rattle.std.specs.Prelude.{◌≡◌}
use Rattle.vcm_code.specs.declared.code.Code.{Code}
use Rattle.vcm_code.specs.Valid.{IsValid}
use Rattle.vcm_fields.specs.declared.fault.ImageFault.{ImageFault}
use Rattle.vcm_fields.specs.declared.fault.ImageFault.TheVariants.{NoMemory}
use Rattle.vcm_image.specs.Whole.{FitsImage, spelling, code_at}
use Rattle.vcm_loader.specs.Loading.{RefusesCode, LoadFault}

-- nothing is told of a valid code
abbrev pub ValidCodesHaveNoRefusal : Type 0
ValidCodesHaveNoRefusal = (c : Code) (e : ImageFault) → IsValid c → ¬ RefusesCode c e

-- no code has two refusals
abbrev pub RefusalsAreOne : Type 0
RefusalsAreOne = (c : Code) (d e : ImageFault) → RefusesCode c d → RefusesCode c e → d ≡ e

-- the image of a valid code is loaded as that code, and nothing is told of it but want of memory
abbrev pub WrittenIsLoaded : Type 0
WrittenIsLoaded = (c d : Code) (e : ImageFault) → FitsImage c → IsValid c → FitsImage d → spelling d ≡ spelling c
    → (d ≡ c) × (LoadFault (code_at (spelling c)) e → e ≡ NoMemory)
