-- What is found of statements that are judged one after the other.
use Rattle.std.specs.Prelude.{List, Result, Ok, Err}
use Rattle.vcm_code.specs.declared.code.Code.{Code}
use Rattle.vcm_code.specs.Checks.{Check, AllHold}
use Rattle.vcm_code.specs.Valid.{IsValid}
use Rattle.vcm_fields.specs.declared.fault.ImageFault.{ImageFault}
use Rattle.vcm_loader.specs.Loading.{FirstFailedCheck, RefusesCode}

-- nothing is found where all these checks hold, otherwise the first that doesn't
abbrev pub IsVerdict : {X : Type 0} → List Check → Result X ImageFault → Type 0
IsVerdict cs (Ok x) = AllHold cs
IsVerdict cs (Err e) = FirstFailedCheck cs e

-- nothing is found of a code that is valid, otherwise its refusal
abbrev pub IsJudged : {X : Type 0} → Code → Result X ImageFault → Type 0
IsJudged c (Ok x) = IsValid c
IsJudged c (Err e) = RefusesCode c e
