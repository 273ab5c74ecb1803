-- Worked examples: the first fault of short texts, computed.
use Rattle.std.specs.Prelude.{◌≡◌, refl, ℕ, List, [], ◌∷◌, ◌++◌, codes, Option, Some, None, replicate}
use Rattle.vcm_lines.specs.declared.fault.FaultCode.{FaultCode}
use Rattle.vcm_lines.specs.declared.fault.FaultCode.TheVariants.{BadByte, LineTooLong, DanglingContinuation, BadSyntax}
use Rattle.vcm_lines.specs.declared.fault.SourceFault.{SourceFault}
use Rattle.vcm_lines.specs.Segments.{segments_from}
use Rattle.vcm_lines.specs.Statements.{lines_of}
use Rattle.vcm_lines.specs.Leftmost.{first_fault}

-- what is told of a text
abbrev told : List ℕ → Option SourceFault
told text = first_fault (lines_of text)

-- a refusal with this code at this line
abbrev at : FaultCode → ℕ → Option SourceFault
at code line = Some (record { code = code; line = line })

-- nothing is wrong
pub sound : told (codes "GOTO/20, $ $$ more" ++ 10 ∷ codes "20,50") ≡ None
unfolding segments_from
sound = refl

-- a byte that may not stand outside texts, and behind it a text that isn't closed; and the other way round
pub byte_first : told (codes "A" ++ 10 ∷ 1 ∷ codes "'B") ≡ at BadByte 2
unfolding segments_from
byte_first = refl

pub text_first : told (codes "A" ++ 10 ∷ codes "'B" ++ 1 ∷ []) ≡ at BadSyntax 2
unfolding segments_from
text_first = refl

-- a dollar with a byte behind it that may stand nowhere; and with a comment behind it in which that byte stands
pub dollar_first : told (codes "$ " ++ 1 ∷ []) ≡ at BadSyntax 1
unfolding segments_from
dollar_first = refl

pub dollar_last : told (codes "$ $$ " ++ 1 ∷ []) ≡ at BadByte 1
unfolding segments_from
dollar_last = refl

-- a line of more than 1,024 bytes, the first of which may stand nowhere
pub long_first : told (replicate 1025 1) ≡ at LineTooLong 1
unfolding segments_from
long_first = refl

-- a last line that goes on, and an empty one behind it
pub nothing_behind : told (codes "A $" ++ 10 ∷ 10 ∷ []) ≡ at DanglingContinuation 1
unfolding segments_from
nothing_behind = refl
