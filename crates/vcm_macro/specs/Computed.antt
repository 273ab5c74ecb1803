-- The first fault of the phase of macros, computed, with the leftmost code of its place.
use Rattle.std.specs.Prelude.{ℕ, ◌+◌, List, [], ◌∷◌, Option, Some, None}
use Rattle.vcm_lines.specs.declared.fault.FaultCode.{FaultCode}
use Rattle.vcm_lines.specs.declared.fault.SourceFault.{SourceFault}
use Rattle.vcm_forms.specs.declared.statement.Statement.{Statement}
use Rattle.vcm_macro.specs.Walk.{Visit, walk}
use Rattle.vcm_macro.specs.Rules.{codes_at, weight, line_at}

-- the leftmost of codes
abbrev pub leftmost : List FaultCode → Option FaultCode
leftmost [] = None
leftmost (c ∷ cs) = Some c

-- the refusal at a place, or else what comes behind it
abbrev pub fault_or : Option FaultCode → ℕ → Option SourceFault → Option SourceFault
fault_or None line behind = behind
fault_or (Some code) line behind = Some (record { code = code; line = line })

-- the first fault of these places, behind others that count so much
abbrev pub fault_among : ℕ → List Visit → Option SourceFault
fault_among n [] = None
fault_among n (p ∷ ps) = fault_or (leftmost (codes_at n p)) (line_at p) (fault_among (n + weight p) ps)

-- the first fault of a program's macros
abbrev pub macro_fault : List Statement → Option SourceFault
macro_fault ss = fault_among 0 (walk ss)
