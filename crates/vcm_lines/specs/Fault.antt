-- What want of memory answers, and what is told where something is missing.
use Rattle.std.specs.Prelude.{◌≡◌, ◌⊎◌, Option, Some, None, Result, Ok, Err}
use Rattle.vcm_lines.specs.declared.fault.FaultCode.{FaultCode}
use Rattle.vcm_lines.specs.declared.fault.SourceFault.{SourceFault}
use Rattle.vcm_lines.specs.declared.fault.FaultCode.TheVariants.{NoMemory}

-- the refusal of a growth of memory
abbrev pub no_memory : SourceFault
no_memory = record { code = NoMemory; line = 0 }

-- memory ran out, or P holds of the refusal
abbrev pub NoMemoryOr : (SourceFault → Type 0) → SourceFault → Type 0
NoMemoryOr P f = (f ≡ no_memory) ⊎ P f

-- what is there, or the fault
abbrev pub or_fault : {A : Type 0} → FaultCode → Option A → Result A FaultCode
or_fault e (Some x) = Ok x
or_fault e None = Err e
