-- A line of a listing that is refused.
use Rattle.std.specs.Prelude.{◌≡◌, ◌⊎◌, Result, Err}
use Rattle.vcm_code.specs.declared.code.Code.{Code}
use Rattle.vcm_words.specs.declared.fault.ListCode.{ListCode}
use Rattle.vcm_words.specs.declared.fault.ListCode.TheVariants.{NoMemory}

-- the same of one line
abbrev pub FailsLine : ListCode → Result Code ListCode → Type 0
FailsLine e read = (e ≡ NoMemory) ⊎ (read ≡ Err e)
