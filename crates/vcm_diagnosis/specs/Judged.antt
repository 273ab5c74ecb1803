-- What a text is refused with.
use Rattle.std.specs.Prelude.{ℕ, List, Option, Some, None}
use Rattle.vcm_lines.specs.declared.fault.SourceFault.{SourceFault}
use Rattle.vcm_program.specs.Program.{Parsed}
use Rattle.vcm_tree.specs.Acceptance.{IsAccepted, IsRefused}

-- the text is accepted
abbrev pub Accepts : List ℕ → Type 0
Accepts text = (p : Parsed) × IsAccepted text p

-- what is told first of a text: nothing where it is accepted, and else what it is refused with
abbrev pub IsToldFirst : List ℕ → Option SourceFault → Type 0
IsToldFirst text None = Accepts text
IsToldFirst text (Some f) = IsRefused text f
