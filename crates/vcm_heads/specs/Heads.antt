-- What stands before the fields of a producer's statement.
use Rattle.std.specs.Prelude.{ℕ, Bool, true, false, if◌then◌else◌, List, [], ◌∷◌, Option, Some, None}
use Rattle.std.specs.Str.{bytes_eq}
use Rattle.vcm_lines.specs.Lexemes.{Lexeme, Run, Open, Close, Equals, Comma, Slash}
use Rattle.vcm_heads.specs.declared.heads.Mark.{Mark}
use Rattle.vcm_heads.specs.declared.heads.Mark.TheVariants as marks
use Rattle.vcm_heads.specs.Steps.{◌>>=◌}

-- whether a word is this mark
abbrev pub is_mark : Mark → Lexeme → Bool
is_mark marks.Open Open = true
is_mark marks.Close Close = true
is_mark marks.Equals Equals = true
is_mark marks.Comma Comma = true
is_mark marks.Slash Slash = true
is_mark m w = false

-- the words behind a mark, where they begin with it
abbrev pub past : Mark → List Lexeme → Option (List Lexeme)
past m [] = None
past m (w ∷ ws) = if is_mark m w then Some ws else None

-- the run of letters and digits that words begin with, and the words behind it
abbrev pub run_at : List Lexeme → Option (List ℕ × List Lexeme)
run_at (Run w ∷ ws) = Some (w, ws)
run_at ws = None

-- the words behind this very word, where they begin with it
abbrev pub past_word : List ℕ → List Lexeme → Option (List Lexeme)
past_word wanted ws = do
  r ← run_at ws
  if bytes_eq r.0 wanted then Some r.1 else None

-- a label in parentheses, and the words behind it
abbrev pub label_at : List Lexeme → Option (List ℕ × List Lexeme)
label_at ws = do
  r ← past marks.Open ws
  l ← run_at r
  s ← past marks.Close l.1
  Some (l.0, s)

-- a label behind these letters, as F(l), and the words behind it
abbrev pub title_at : List ℕ → List Lexeme → Option (List ℕ × List Lexeme)
title_at letters ws = do
  r ← past_word letters ws
  label_at r

-- the words behind any title and its equals sign, as behind F(l)=
abbrev pub past_title : List Lexeme → Option (List Lexeme)
past_title ws = do
  t ← run_at ws
  l ← label_at t.1
  past marks.Equals l.1

-- a variable and its equals sign, and the words behind them
abbrev pub assigned_at : List Lexeme → Option (List ℕ × List Lexeme)
assigned_at ws = do
  v ← run_at ws
  r ← past marks.Equals v.1
  Some (v.0, r)

-- what is found, or else this
abbrev pub found_or : {A : Type 0} → A → Option A → A
found_or x None = x
found_or x (Some y) = y

-- the words behind a variable and its equals sign, all words where there is none
abbrev pub unassigned : List Lexeme → Option (List ℕ × List Lexeme) → List Lexeme
unassigned ws None = ws
unassigned ws (Some r) = r.1

-- the words from the major word on, behind a title or a variable with its equals sign
abbrev pub body_of : List Lexeme → List Lexeme
body_of ws = found_or (unassigned ws (assigned_at ws)) (past_title ws)

-- a word that was found, no bytes where there is none
abbrev pub word_in : Option (List ℕ × List Lexeme) → List ℕ
word_in None = []
word_in (Some r) = r.0

-- the words behind a word that was found
abbrev pub rest_in : Option (List ℕ × List Lexeme) → List Lexeme
rest_in None = []
rest_in (Some r) = r.1

-- the major word, no bytes where there is none
abbrev pub major_of : List Lexeme → List ℕ
major_of ws = word_in (run_at (body_of ws))

-- the words behind the major word
abbrev pub behind_of : List Lexeme → List Lexeme
behind_of ws = rest_in (run_at (body_of ws))

-- the word that the fields behind a major word begin with, no bytes where there is none
abbrev pub first_field : List Lexeme → List ℕ
first_field ws = word_in (past marks.Slash ws >>= run_at)

-- whether words begin with a parenthesis, as a jump label does
abbrev pub is_label : List Lexeme → Bool
is_label (Open ∷ ws) = true
is_label ws = false
