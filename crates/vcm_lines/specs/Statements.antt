-- The statements of a text, and the rules that its lines keep.
use Rattle.std.specs.Prelude.{◌≡◌, ℕ, ◌+◌, ◌<◌, ◌≤◌, ◌⊎◌, IsTrue, ◌||◌, ◌&&◌, not, Bool, List, [], ◌∷◌, ◌++◌}
use Rattle.std.specs.Prelude.{length, drop, if◌then◌else◌, Option, Some, None, ◌==◌, nat_eq, replicate}
use Rattle.std.specs.List.{starts_with, list_any, list_all, flat_map, onto_first}
use Rattle.std.specs.Str.Lines.{lines}
use Rattle.vcm_lines.specs.Segments.{segments_of, text_of, continues, has_bad_byte, is_open, has_stray_dollar}
use Rattle.vcm_lines.specs.Words.{AreWords}
use Rattle.vcm_lines.specs.declared.logical.Logical.{Logical}
use Rattle.vcm_lines.specs.declared.fault.FaultCode.{FaultCode}
use Rattle.vcm_lines.specs.declared.fault.FaultCode.TheVariants.{BadByte, LineTooLong, TooManyLines, DanglingContinuation, BadSyntax}
use Rattle.vcm_num.specs.declared.limits.TheConstants.{LONGEST_LINE, LONGEST_STATEMENT, MOST_STATEMENTS}

-- the lines of a text, behind its byte order mark if it has one
abbrev pub lines_of : List ℕ → List (List ℕ)
lines_of text = if starts_with nat_eq text (239 ∷ 187 ∷ 191 ∷ []) then lines (drop 3 text) else lines text

-- a line that isn't skipped: its number from 1 on, the bytes that it gives its statement, and whether a dollar ends it
pub record KeptLine : Type 0 where
  pub line : ℕ
  pub bytes : List ℕ
  pub goes_on : Bool

-- the kept line of the line with the number n
abbrev pub kept_line : ℕ → List ℕ → KeptLine
kept_line n line = record { line = n; bytes = text_of line; goes_on = continues line }

-- a line is skipped where nothing is left of it without its blanks and its comment, not even a dollar
abbrev pub is_empty : List ℕ → Bool
is_empty line = length (text_of line) == 0 && not (continues line)

-- the kept lines of these lines, the first of which has the number n
abbrev pub kept_lines_from : ℕ → List (List ℕ) → List KeptLine
kept_lines_from n [] = []
kept_lines_from n (l ∷ ls) = if is_empty l then kept_lines_from (n + 1) ls else kept_line n l ∷ kept_lines_from (n + 1) ls

-- the kept lines of a text's lines
abbrev pub kept_lines : List (List ℕ) → List KeptLine
kept_lines ls = kept_lines_from 1 ls

-- the kept lines of each statement: a kept line that goes on is put before the next one
abbrev pub grouped : List KeptLine → List (List KeptLine)
grouped [] = []
grouped (r ∷ rs) = if r.goes_on then onto_first r (grouped rs) else (r ∷ []) ∷ grouped rs

-- the kept lines at the end that all go on: those of a statement that isn't finished
abbrev pub unfinished : List KeptLine → List KeptLine
unfinished [] = []
unfinished (r ∷ rs) = if list_all (λ s. s.goes_on) (r ∷ rs) then r ∷ rs else unfinished rs

-- the bytes of a statement
abbrev pub bytes_of : List KeptLine → List ℕ
bytes_of rows = flat_map (λ r. r.bytes) rows

-- the line of each byte of a statement
abbrev pub byte_lines : List KeptLine → List ℕ
byte_lines rows = flat_map (λ r. replicate (length r.bytes) r.line) rows

-- the line of the first kept line
abbrev pub first_line : List KeptLine → ℕ
first_line [] = 0
first_line (r ∷ rs) = r.line

-- the line of the last kept line
abbrev pub last_line : List KeptLine → ℕ
last_line [] = 0
last_line (r ∷ []) = r.line
last_line (r ∷ s ∷ rs) = last_line (s ∷ rs)

-- this is the statement of these kept lines, with its words
pub record IsLogical (rows : List KeptLine) (l : Logical) : Type 0 where
  pub line : l.line ≡ first_line rows
  pub text : l.text ≡ bytes_of rows
  pub words : AreWords (byte_lines rows) l.text 0 l.words

-- these are the statements with these kept lines, one by one
abbrev pub AreLogical : List (List KeptLine) → List Logical → Type 0
AreLogical [] ls = ls ≡ []
AreLogical (s ∷ ss) [] = ⊥
AreLogical (s ∷ ss) (l ∷ ls) = IsLogical s l × AreLogical ss ls

-- a rule with this code is broken by the line's segments
abbrev pub BreaksLine : List ℕ → FaultCode → Type 0
BreaksLine line BadByte = IsTrue (list_any has_bad_byte (segments_of line))
BreaksLine line BadSyntax = IsTrue (list_any is_open (segments_of line) || has_stray_dollar (segments_of line))
BreaksLine line _ = ⊥

-- a rule with this code is broken at a line behind the lines `before`, or at the end of the text
abbrev pub Breaks : List (List ℕ) → Option (List ℕ) → FaultCode → Type 0
Breaks before (Some line) LineTooLong =
    (LONGEST_LINE < length line) ⊎ (LONGEST_STATEMENT < length (bytes_of (unfinished (kept_lines before)) ++ text_of line))
Breaks before (Some line) TooManyLines = MOST_STATEMENTS ≤ length before
Breaks before (Some line) code = BreaksLine line code
Breaks before None DanglingContinuation = 0 < length (unfinished (kept_lines before))
Breaks before None _ = ⊥

-- the number of the line that a fault is told at: its own, and at the end that of the last dollar
abbrev pub told_line : List (List ℕ) → Option (List ℕ) → ℕ
told_line before (Some line) = length before + 1
told_line before None = last_line (unfinished (kept_lines before))
