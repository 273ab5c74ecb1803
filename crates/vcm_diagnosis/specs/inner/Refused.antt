-- Faults that are no want of memory.
use Rattle.std.specs.Prelude.{◌≡◌, Option, Some, None}
use Rattle.vcm_lines.specs.declared.fault.FaultCode.TheVariants.{NoMemory}
use Rattle.vcm_lines.specs.declared.fault.SourceFault.{SourceFault}

-- a fault is told, and is no want of memory
abbrev pub Tells : SourceFault → Option SourceFault → Type 0
Tells g None = ⊥
Tells g (Some f) = (f ≡ g) × (g.code ≡ NoMemory → ⊥)
