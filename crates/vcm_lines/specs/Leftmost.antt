-- The first fault of a text's lines, computed: of several faults in one line the leftmost.
use Rattle.std.specs.Prelude.{ℕ, nat_lt, nat_le, ◌||◌, ◌&&◌, not, List, [], ◌∷◌, ◌++◌, length, if◌then◌else◌, Option, Some, None}
use Rattle.std.specs.List.{list_all}
use Rattle.std.specs.Option.{option_or}
use Rattle.vcm_lines.specs.Segments.{Segment, segments_of, text_of, has_bad_byte, is_open, is_dollar, is_skipped}
use Rattle.vcm_lines.specs.Statements.{KeptLine, kept_lines, unfinished, bytes_of, told_line}
use Rattle.vcm_lines.specs.declared.fault.FaultCode.{FaultCode}
use Rattle.vcm_lines.specs.declared.fault.FaultCode.TheVariants.{BadByte, LineTooLong, TooManyLines, DanglingContinuation, BadSyntax}
use Rattle.vcm_lines.specs.declared.fault.SourceFault.{SourceFault}
use Rattle.vcm_num.specs.declared.limits.TheConstants.{LONGEST_LINE, LONGEST_STATEMENT, MOST_STATEMENTS}

-- the fault that begins at a segment, the segments behind it being given: a text that isn't closed, a dollar behind which something stands
-- that doesn't fall away, or a byte that may not stand where it does
abbrev pub segment_fault : Segment → List Segment → Option FaultCode
segment_fault p behind =
    if is_open p || (is_dollar p && not (list_all is_skipped behind)) then Some BadSyntax
    else if has_bad_byte p then Some BadByte
    else None

-- the leftmost fault of segments
abbrev pub leftmost_fault : List Segment → Option FaultCode
leftmost_fault [] = None
leftmost_fault (p ∷ ps) = option_or (segment_fault p ps) (leftmost_fault ps)

-- the fault of bytes that are more than so many
abbrev pub too_long : ℕ → List ℕ → Option FaultCode
too_long most bytes = if nat_lt most (length bytes) then Some LineTooLong else None

-- the fault of a line behind 20,000 lines or more
abbrev pub too_many : List (List ℕ) → Option FaultCode
too_many before = if nat_le MOST_STATEMENTS (length before) then Some TooManyLines else None

-- the fault of a line's bytes, those that its statement has so far being given: the leftmost of the line, and only then a statement that
-- gets too long by it
abbrev pub bytes_fault : List ℕ → List ℕ → Option FaultCode
bytes_fault begun line = option_or (leftmost_fault (segments_of line)) (too_long LONGEST_STATEMENT (begun ++ text_of line))

-- the fault of a line behind the lines `before`: a line too many, or else a line that is too long, or else that of its bytes
abbrev pub line_fault : List (List ℕ) → List ℕ → Option FaultCode
line_fault before line = option_or (too_many before) (option_or (too_long LONGEST_LINE line) (bytes_fault (bytes_of (unfinished (kept_lines before))) line))

-- the fault of the end of a text whose last kept lines begin a statement that isn't finished
abbrev pub dangling : List KeptLine → Option FaultCode
dangling [] = None
dangling (r ∷ rs) = Some DanglingContinuation

-- the fault of the end of a text with these lines
abbrev pub end_fault : List (List ℕ) → Option FaultCode
end_fault before = dangling (unfinished (kept_lines before))

-- a fault with its line, or else what comes behind it
abbrev pub fault_or : Option FaultCode → ℕ → Option SourceFault → Option SourceFault
fault_or None line behind = behind
fault_or (Some code) line behind = Some (record { code = code; line = line })

-- the first fault of lines behind the lines `before`, the end being the last place
abbrev pub fault_behind : List (List ℕ) → List (List ℕ) → Option SourceFault
fault_behind before [] = fault_or (end_fault before) (told_line before None) None
fault_behind before (l ∷ ls) = fault_or (line_fault before l) (told_line before (Some l)) (fault_behind (before ++ l ∷ []) ls)

-- the first fault of a text's lines, none where they break no rule
abbrev pub first_fault : List (List ℕ) → Option SourceFault
first_fault ls = fault_behind [] ls
