-- The faults of a text, and the lines that are told of them.
use Rattle.std.specs.Prelude.{◌≡◌, ℕ, ◌+◌, ◌-◌, ◌==◌, nat_lt, if◌then◌else◌, Bool, true, false, List, [], ◌∷◌, ◌++◌, length, take, drop, map, flat_map, slice_get, decimal, codes, Option, Some, None}
use Rattle.std.specs.List.{prefix_len, suffix_len}
use Rattle.std.specs.Char.{is_ascii_whitespace}
use Rattle.vcm_num.specs.Lines.{whole_lines}
use Rattle.vcm_num.specs.declared.limits.TheConstants.{MOST_STATEMENTS}
use Rattle.vcm_lines.specs.declared.fault.FaultCode.{FaultCode}
use Rattle.vcm_lines.specs.declared.fault.FaultCode.TheVariants.{BadByte, LineTooLong, TooManyLines, DanglingContinuation, UnknownStatement, TooFine, NumberTooLarge, TooDeep, NotQuarterTurn, NotAxis, BadArguments, Unsupported}
use Rattle.vcm_lines.specs.declared.fault.SourceFault.{SourceFault}
use Rattle.vcm_sentences.specs.declared.sentences.Sentence.{Sentence}
use Rattle.vcm_sentences.specs.Stretches.{spoken, sentences_in}

-- the fault in front of others, if there is one
abbrev pub with_fault : Option SourceFault → List SourceFault → List SourceFault
with_fault None fs = fs
with_fault (Some f) fs = f ∷ fs

-- the faults that statements have, in their order, each with what it says alone
abbrev pub faults_in : List Sentence → List SourceFault
faults_in [] = []
faults_in (s ∷ ss) = with_fault s.fault (faults_in ss)

-- whether a text has more lines than a program may have
abbrev pub is_too_long : List ℕ → Bool
is_too_long text = nat_lt MOST_STATEMENTS (length (whole_lines text))

-- the fault of such a text
abbrev pub too_many : SourceFault
too_many = record { code = TooManyLines; line = MOST_STATEMENTS + 1 }

-- these are the faults of a text that has too many lines, or hasn't: that alone, or those of its statements
abbrev pub AreFaultsIf : Bool → List ℕ → List SourceFault → Type 0
AreFaultsIf true text fs = fs ≡ too_many ∷ []
AreFaultsIf false text fs = (ss : List Sentence) × (map spoken ss ≡ sentences_in text) × (fs ≡ faults_in ss)

-- these are the faults of a text
abbrev pub AreFaults : List ℕ → List SourceFault → Type 0
AreFaults text fs = AreFaultsIf (is_too_long text) text fs

-- the code and the name of a fault of a line or a statement
abbrev pub fault_words : FaultCode → List ℕ
fault_words BadByte = codes "E01 BadByte"
fault_words LineTooLong = codes "E02 LineTooLong"
fault_words TooManyLines = codes "E03 TooManyLines"
fault_words DanglingContinuation = codes "E04 DanglingContinuation"
fault_words UnknownStatement = codes "E05 UnknownStatement"
fault_words TooFine = codes "E07 TooFine"
fault_words NumberTooLarge = codes "E08 NumberTooLarge"
fault_words TooDeep = codes "E09 TooDeep"
fault_words NotQuarterTurn = codes "E10 NotQuarterTurn"
fault_words NotAxis = codes "E11 NotAxis"
fault_words BadArguments = codes "E19 BadArguments"
fault_words Unsupported = codes "E22 Unsupported"
fault_words _ = codes "E06 BadSyntax"

-- a line without the blanks in front of it
abbrev pub without_front : List ℕ → List ℕ
without_front line = drop (prefix_len is_ascii_whitespace line) line

-- a line without the blanks behind it
abbrev pub without_end : List ℕ → List ℕ
without_end line = take (length line - suffix_len is_ascii_whitespace line) line

-- a line as it is shown: without the blanks around it, and nothing where there is no line
abbrev pub shown : Option (List ℕ) → List ℕ
shown None = []
shown (Some line) = without_end (without_front line)

-- the name of a text in front of its faults, if it has one
abbrev pub front_words : List ℕ → List ℕ
front_words front = if length front == 0 then [] else front ++ codes ": "

-- the line that tells a fault
unfoldable pub first_line : List ℕ → SourceFault → List ℕ
first_line front f = front_words front ++ (fault_words f.code ++ (codes " line " ++ (decimal f.line ++ codes "\n")))

-- the line below it: the one that it is at
unfoldable pub second_line : List (List ℕ) → SourceFault → List ℕ
second_line lines f = codes "  " ++ (shown (slice_get lines (f.line - 1)) ++ codes "\n")

-- what is told of a fault of these lines
abbrev pub told_of : List ℕ → List (List ℕ) → SourceFault → List ℕ
told_of front lines f = first_line front f ++ second_line lines f

-- what is told of the faults of a text, in their order
abbrev pub told : List ℕ → List ℕ → List SourceFault → List ℕ
told front text fs = flat_map (told_of front (whole_lines text)) fs
