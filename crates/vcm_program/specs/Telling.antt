-- A refusal at a line.
use Rattle.std.specs.Prelude.{◌≡◌, ℕ, Result, Err}
use Rattle.vcm_lines.specs.declared.fault.FaultCode.{FaultCode}
use Rattle.vcm_lines.specs.declared.fault.SourceFault.{SourceFault}

-- the refusal tells this line, and the fault of the outcome
abbrev pub ToldAt : {A : Type 0} → ℕ → Result A FaultCode → SourceFault → Type 0
ToldAt line outcome f = (f.line ≡ line) × (outcome ≡ Err f.code)
