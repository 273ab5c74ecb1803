-- Refusals of a part file.
use Rattle.std.specs.Prelude.{ℕ}
use Rattle.vcm_part.specs.declared.fault.PartCode.{PartCode}
use Rattle.vcm_part.specs.declared.fault.PartFault.{PartFault}

-- a refusal, and the number of the block at fault, or 0
abbrev pub fault : PartCode → ℕ → PartFault
fault code block = record { code = code; block = block }
