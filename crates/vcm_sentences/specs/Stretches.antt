-- The statements of any text, behind faults too, and which lines are theirs.
use Rattle.std.specs.Prelude.{ℕ, ◌+◌, ◌==◌, ◌||◌, not, Bool, true, false, List, [], ◌∷◌, map, min, if◌then◌else◌}
use Rattle.std.specs.List.{filter, flat_map, onto_first, take_while}
use Rattle.std.specs.Option.{is_some}
use Rattle.std.specs.Str.Lines.{lines}
use Rattle.vcm_num.specs.Lines.{whole_lines}
use Rattle.vcm_lines.specs.Bytes.{is_blank}
use Rattle.vcm_lines.specs.Segments.{text_of, continues}
use Rattle.vcm_lines.specs.Statements.{lines_of, is_empty}
use Rattle.vcm_lines.specs.Leftmost.{first_fault}
use Rattle.vcm_sentences.specs.declared.sentences.Owner.{Owner}
use Rattle.vcm_sentences.specs.declared.sentences.Owner.TheVariants.{Nobody, First, Other}
use Rattle.vcm_sentences.specs.declared.sentences.Sentence.{Sentence}

-- a line of a text: its number from 1 on, the line as it stands there, and what it says, without its ending
pub record TextLine : Type 0 where
  pub number : ℕ
  pub raw : List ℕ
  pub text : List ℕ

-- the first of these lines, no bytes where there is none
abbrev pub first_of : List (List ℕ) → List ℕ
first_of [] = []
first_of (l ∷ ls) = l

-- what the line with the number n says: the first one is read behind its byte order mark, if it has one
abbrev pub said_at : ℕ → List ℕ → List ℕ
said_at n raw = first_of (if n == 1 then lines_of raw else lines raw)

-- the line with the number n
abbrev pub text_line : ℕ → List ℕ → TextLine
text_line n raw = record { number = n; raw = raw; text = said_at n raw }

-- the number of the line behind that with the number n; none has a number above 4,294,967,295
abbrev pub next : ℕ → ℕ
next n = min (n + 1) 4294967295

-- these lines, the first of which has the number n
abbrev pub text_lines_from : ℕ → List (List ℕ) → List TextLine
text_lines_from n [] = []
text_lines_from n (l ∷ ls) = text_line n l ∷ text_lines_from (next n) ls

-- the lines of a text
abbrev pub text_lines : List ℕ → List TextLine
text_lines text = text_lines_from 1 (whole_lines text)

-- whether a statement goes on behind a line: a dollar ends the line, or nothing is left of it and it stands within a statement
abbrev pub goes_on : Bool → TextLine → Bool
goes_on within l = if is_empty l.text then within else continues l.text

-- a line in front of stretches: before the first one where it goes on, else a stretch of its own
abbrev pub put_before : Bool → TextLine → List (List TextLine) → List (List TextLine)
put_before goes l ss = if goes then onto_first l ss else (l ∷ []) ∷ ss

-- lines, cut behind each one behind which no statement goes on; `within` says whether they begin within a statement
abbrev pub stretches : Bool → List TextLine → List (List TextLine)
stretches within [] = []
stretches within (l ∷ ls) = put_before (goes_on within l) l (stretches (goes_on within l) ls)

-- a stretch as it stands in the text
abbrev pub raw_of : List TextLine → List ℕ
raw_of ls = flat_map (λ l. l.raw) ls

-- the bytes of the statement of a stretch: what its lines give it, without blanks and comments, in upper case outside texts
abbrev pub bytes_in : List TextLine → List ℕ
bytes_in ls = flat_map (λ l. text_of l.text) ls

-- the number of the first line
abbrev pub number_of : List TextLine → ℕ
number_of [] = 0
number_of (l ∷ ls) = l.number

-- the blanks in front of the first line
abbrev pub indent_of : List TextLine → List ℕ
indent_of [] = []
indent_of (l ∷ ls) = take_while is_blank l.raw

-- a stretch begins a statement where something is left of its first line, be it a dollar
abbrev pub begins_statement : List TextLine → Bool
begins_statement [] = false
begins_statement (l ∷ ls) = not (is_empty l.text)

-- a stretch is told where it begins a statement, or where it breaks a rule of lines, as a comment with a byte that may not stand there
abbrev pub is_told : List TextLine → Bool
is_told ls = begins_statement ls || is_some (first_fault (lines_of (raw_of ls)))

-- what is told of a stretch: the line that it begins on, its lines as they stand, the blanks in front of it, and its bytes
pub record Spoken : Type 0 where
  pub line : ℕ
  pub lines : List ℕ
  pub indent : List ℕ
  pub bytes : List ℕ

-- what is told of this stretch
abbrev pub spoken_of : List TextLine → Spoken
spoken_of ls = record { line = number_of ls; lines = raw_of ls; indent = indent_of ls; bytes = bytes_in ls }

-- what is told of stretches, in order
abbrev pub told : List (List TextLine) → List Spoken
told ss = map spoken_of (filter is_told ss)

-- the sentences of a text: what is told of its stretches
abbrev pub sentences_in : List ℕ → List Spoken
sentences_in text = told (stretches false (text_lines text))

-- what a sentence of the code says, but for its fault
abbrev pub spoken : Sentence → Spoken
spoken s = record { line = s.line; lines = s.lines.items; indent = s.indent.items; bytes = s.bytes.items }

-- what a line is to the sentences: the first one of the next, another one of that which it stands within, or nothing
abbrev pub owner : Bool → TextLine → Owner
owner false l = if is_told (l ∷ []) then First else Nobody
owner true l = if is_empty l.text then Nobody else Other

-- what each of these lines is to the sentences
abbrev pub owners_from : Bool → List TextLine → List Owner
owners_from within [] = []
owners_from within (l ∷ ls) = owner within l ∷ owners_from (goes_on within l) ls

-- what each line of a text is to its sentences
abbrev pub owners_in : List ℕ → List Owner
owners_in text = owners_from false (text_lines text)
