-- Which variables of texts are counted: those of which each statement that names them is followed.
use Rattle.std.specs.Prelude.{ℕ, zero, suc, codes, ◌&&◌, ◌||◌, not, nat_eq, Bool, true, false, is_some, if◌then◌else◌, List, [], ◌∷◌, Option, Some, None}
use Rattle.std.specs.List.{list_any, list_all, filter}
use Rattle.std.specs.Str.{bytes_eq}
use Rattle.vcm_lines.specs.declared.logical.Logical.{Logical}
use Rattle.vcm_lines.specs.declared.phrase.Cutter.TheVariants.{AtComma}
use Rattle.vcm_lines.specs.Lexemes.{Lexeme, Run, Quoted}
use Rattle.vcm_lines.specs.Cuts.{before, after}
use Rattle.vcm_heads.specs.declared.heads.Mark.TheVariants as marks
use Rattle.vcm_heads.specs.declared.rows.Row.{Row}
use Rattle.vcm_heads.specs.declared.rows.Row.TheVariants as row
use Rattle.vcm_heads.specs.Steps.{◌>>=◌}
use Rattle.vcm_heads.specs.Heads.{past, run_at, rest_in, word_in, assigned_at}
use Rattle.vcm_heads.specs.Rows.{row_in, words_of}
use Rattle.vcm_compared.specs.declared.texts.Held.{Held}
use Rattle.vcm_compared.specs.declared.texts.Texts.{Texts}
use Rattle.vcm_compared.specs.declared.texts.TheConstants.{MOST_FIELDS}
use Rattle.vcm_compared.specs.declared.counted.TheConstants.{MOST_ROUNDS}
use Rattle.vcm_compared.specs.Texts.{char_at, is_alike, texts_in}
use Rattle.vcm_compared.specs.Tests.{test_of}
use Rattle.vcm_compared.specs.Puts.{assignment_of, chosen_variable, scan_from, begun, is_counted_choice}

-- ---- where a variable is named

-- whether a word is this name
abbrev pub is_name : List ℕ → Lexeme → Bool
is_name name (Run w) = bytes_eq w name
is_name name w = false

-- the same, or a text with it, which a macro may take for the name
abbrev pub is_handed : List ℕ → Lexeme → Bool
is_handed name (Run w) = bytes_eq w name
is_handed name (Quoted w) = is_alike w name
is_handed name w = false

-- whether words name a variable
abbrev pub names : List ℕ → List Lexeme → Bool
names name ws = list_any (is_name name) ws

-- whether a statement with this row does
abbrev pub mentions : Row → List ℕ → List Lexeme → Bool
mentions row.Call name ws = list_any (is_handed name) ws
mentions row.Shape name ws = list_any (is_handed name) ws
mentions r name ws = names name ws

-- ---- where that is followed

-- whether a field is one word alone
abbrev pub is_lone_word : List Lexeme → Bool
is_lone_word (Run w ∷ []) = true
is_lone_word ws = false

-- whether it is so, or doesn't name this variable
abbrev pub is_clean : List ℕ → List Lexeme → Bool
is_clean name ws = is_lone_word ws || not (names name ws)

-- whether all fields are so, of which so many are read
unfoldable pub are_clean : ℕ → List ℕ → Option (List Lexeme) → Bool
are_clean n name None = true
are_clean zero name (Some ws) = false
are_clean (suc n) name (Some ws) = is_clean name (before AtComma ws) && are_clean n name (after AtComma ws)

-- whether a declaration of texts names a variable as one of them alone
abbrev pub is_clean_behind : List ℕ → Option (List ℕ × List Lexeme) → Bool
is_clean_behind name None = false
is_clean_behind name (Some r) = not (bytes_eq r.0 name) && are_clean MOST_FIELDS name (past marks.Comma r.1)

-- the same of its words
abbrev pub is_declaration : List ℕ → List Lexeme → Bool
is_declaration name ws = is_clean_behind name (char_at ws >>= run_at)

-- whether a statement reads a variable at most: it isn't what the statement is a value for
abbrev pub is_reading : List ℕ → List Lexeme → Bool
is_reading name ws = not (bytes_eq (word_in (assigned_at ws)) name)

-- the statements behind the one on a line
abbrev pub below : ℕ → List Logical → List Logical
below line [] = []
below line (l ∷ ls) = if nat_eq l.line line then ls else below line ls

-- whether a SELECT of this variable is followed
abbrev pub is_choice_of : Texts → List Logical → Option Held → Bool
is_choice_of t ls None = false
is_choice_of t ls (Some h) = is_counted_choice (scan_from t h.most begun ls)

-- whether a statement with this row that names a variable is followed: it declares it, compares it with texts, gives it one, or only reads it; or its value isn't
-- known behind it
abbrev pub follows_by : Texts → List Logical → Row → List ℕ → ℕ → List Lexeme → Bool
follows_by t ls row.Stated name line ws = is_declaration name ws
follows_by t ls row.Value name line ws = is_some (assignment_of t ws)
follows_by t ls row.Test name line ws = is_some (test_of t ws)
follows_by t ls row.Choice name line ws = is_choice_of t (below line ls) (chosen_variable t ws)
follows_by t ls row.Values name line ws = true
follows_by t ls row.Text name line ws = is_reading name ws
follows_by t ls row.Silent name line ws = is_reading name ws
follows_by t ls r name line ws = false

-- whether a statement doesn't name a variable, or is followed
abbrev pub follows : Texts → List Logical → List ℕ → Logical → Bool
follows t ls name l = not (mentions (row_in (words_of l)) name (words_of l)) || follows_by t ls (row_in (words_of l)) name l.line (words_of l)

-- whether all statements of a text are so
abbrev pub is_followed : Texts → List Logical → Held → Bool
is_followed t ls h = list_all (follows t ls h.name) ls

-- ---- all of them

-- with the variables that are followed alone
abbrev pub without_others : Texts → List Logical → Texts
without_others t ls = record t { held = filter (is_followed t ls) t.held }

-- these, or else others
abbrev pub if_all : Bool → Texts → Texts → Texts
if_all true t u = t
if_all false t u = u

-- the variables that are followed as long as all of these are counted: of the others there are fewer, until each is followed
unfoldable pub narrowed : ℕ → List Logical → Texts → Texts
narrowed zero ls t = record t { held = [] }
narrowed (suc n) ls t = if_all (list_all (is_followed t ls) t.held) t (narrowed n ls (without_others t ls))

-- the texts of a program, and the variables that are counted
abbrev pub counted : List (List ℕ) → List Logical → Texts
counted given ls = narrowed MOST_ROUNDS ls (texts_in given ls)
