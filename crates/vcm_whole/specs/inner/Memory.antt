-- Want of memory among the faults of a text.
use Rattle.std.specs.Prelude.{Bool, true, false}
use Rattle.vcm_lines.specs.declared.fault.FaultCode.{FaultCode}
use Rattle.vcm_lines.specs.declared.fault.FaultCode.TheVariants.{NoMemory}

-- whether a fault is want of memory
abbrev pub is_memory : FaultCode → Bool
is_memory NoMemory = true
is_memory code = false
