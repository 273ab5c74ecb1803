-- The variables of texts that a program declares, and the texts that it compares and assigns.
use Rattle.std.specs.Prelude.{ℕ, zero, suc, ◌+◌, ◌-◌, ◌*◌, nat_eq, nat_le, nat_lt, codes, ◌&&◌, not, Bool, true, false, if◌then◌else◌, List, [], ◌∷◌, ◌++◌, length, Option, Some, None}
use Rattle.std.specs.List.{list_any, list_all, filter, flat_map, count_by}
use Rattle.std.specs.Str.{bytes_eq}
use Rattle.vcm_items.specs.NameBytes.{is_variable_name}
use Rattle.vcm_lines.specs.Bytes.{upper}
use Rattle.vcm_lines.specs.declared.logical.Logical.{Logical}
use Rattle.vcm_lines.specs.declared.phrase.Cutter.TheVariants.{AtComma}
use Rattle.vcm_lines.specs.Lexemes.{Lexeme, Run, Quoted}
use Rattle.vcm_lines.specs.Cuts.{before, after}
use Rattle.vcm_heads.specs.declared.heads.Mark.TheVariants as marks
use Rattle.vcm_heads.specs.declared.rows.Row.{Row}
use Rattle.vcm_heads.specs.declared.rows.Row.TheVariants as row
use Rattle.vcm_heads.specs.Steps.{◌>>=◌}
use Rattle.vcm_heads.specs.Heads.{past, past_word, run_at, found_or, major_of, behind_of}
use Rattle.vcm_heads.specs.Rows.{row_in, words_of}
use Rattle.vcm_compared.specs.declared.texts.Held.{Held}
use Rattle.vcm_compared.specs.declared.texts.Texts.{Texts}
use Rattle.vcm_compared.specs.declared.texts.TheConstants.{MOST_FIELDS, MOST_LETTERS, MOST_TEXTS}

-- ---- declarations

-- the fields of a declaration behind the word LOCAL, if it has that
abbrev pub behind_local : List Lexeme → List Lexeme
behind_local fields = found_or fields (past_word (codes "LOCAL") fields >>= past marks.Comma)

-- the fields behind CHAR of a declaration of texts that other programs don't share
abbrev pub char_at : List Lexeme → Option (List Lexeme)
char_at ws = do
  r ← past_word (codes "DECL") ws
  fields ← past marks.Slash r
  c ← past_word (codes "CHAR") (behind_local fields)
  past marks.Comma c

-- whether a byte is a digit
abbrev pub is_digit : ℕ → Bool
is_digit b = nat_le 48 b && nat_le b 57

-- a number with one digit more; a large one stays
abbrev pub with_digit : ℕ → ℕ → ℕ
with_digit n b = if nat_lt n MOST_LETTERS then n * 10 + (b - 48) else n

-- a number with these digits behind it
abbrev pub with_digits : ℕ → List ℕ → ℕ
with_digits n [] = n
with_digits n (b ∷ bs) = with_digits (with_digit n b) bs

-- how many letters a text of a variable has at most, by the word that says it
abbrev pub letters_of : List ℕ → ℕ
letters_of bs = if list_all is_digit bs then with_digits 0 bs else 0

-- the variable that a field declares
abbrev pub held_by : ℕ → List Lexeme → List Held
held_by most (Run w ∷ []) = if is_variable_name w then record { name = w; most = most } ∷ [] else []
held_by most ws = []

-- the variables that fields declare, of which so many are read
unfoldable pub held_from : ℕ → ℕ → Option (List Lexeme) → List Held
held_from n most None = []
held_from zero most (Some ws) = []
held_from (suc n) most (Some ws) = held_by most (before AtComma ws) ++ held_from n most (after AtComma ws)

-- the same behind the word for how many letters they have
abbrev pub held_behind : Option (List ℕ × List Lexeme) → List Held
held_behind None = []
held_behind (Some r) = held_from MOST_FIELDS (letters_of r.0) (past marks.Comma r.1)

-- the variables of texts that a statement declares
abbrev pub held_in : List Lexeme → List Held
held_in ws = held_behind (char_at ws >>= run_at)

-- those that a text declares
abbrev pub declared : List Logical → List Held
declared ls = flat_map (λ l. held_in (words_of l)) ls

-- whether a variable has this name
abbrev pub is_named : List ℕ → Held → Bool
is_named name h = bytes_eq h.name name

-- whether a variable is declared once in all of these, which are those of the whole text, in its macros too
abbrev pub is_once : List Held → Held → Bool
is_once hs h = nat_eq (count_by (is_named h.name) hs) 1

-- whether a statement begins or ends those of the machine's own
abbrev pub is_own : Logical → Bool
is_own l = bytes_eq (major_of (words_of l)) (codes "DMIS")

-- the variables that may be counted: none in a text with statements of the machine's own
abbrev pub candidates : List Logical → List Held
candidates ls = if list_any is_own ls then [] else filter (is_once (declared ls)) (declared ls)

-- the variable with this name
abbrev pub held_named : List ℕ → List Held → Option Held
held_named name [] = None
held_named name (h ∷ hs) = if bytes_eq h.name name then Some h else held_named name hs

-- ---- parameters

-- the words and texts among words, with those in front
abbrev pub with_names : List (List ℕ) → List Lexeme → List (List ℕ)
with_names ns [] = ns
with_names ns (Run w ∷ ws) = with_names (ns ++ w ∷ []) ws
with_names ns (Quoted w ∷ ws) = with_names (ns ++ w ∷ []) ws
with_names ns (w ∷ ws) = with_names ns ws

-- with the parameters of a macro
abbrev pub with_parameters : List (List ℕ) → Logical → List (List ℕ)
with_parameters ns l = if bytes_eq (major_of (words_of l)) (codes "MACRO") then with_names ns (behind_of (words_of l)) else ns

-- with those of all macros
abbrev pub with_all_parameters : List (List ℕ) → List Logical → List (List ℕ)
with_all_parameters ns [] = ns
with_all_parameters ns (l ∷ ls) = with_all_parameters (with_parameters ns l) ls

-- whether two texts are one but for capitals
abbrev pub is_alike : List ℕ → List ℕ → Bool
is_alike [] [] = true
is_alike (a ∷ xs) (b ∷ ys) = nat_eq (upper a) (upper b) && is_alike xs ys
is_alike xs ys = false

-- whether a text is the name of a parameter, for which a macro may have another text there
abbrev pub is_parameter : List (List ℕ) → List ℕ → Bool
is_parameter ns t = list_any (is_alike t) ns

-- ---- literals

-- the place of a text among others, from here on; places that are too large aren't counted
abbrev pub place_of : ℕ → List (List ℕ) → List ℕ → Option ℕ
place_of n [] t = None
place_of n (x ∷ xs) t = if bytes_eq x t then Some n else if nat_lt n MOST_TEXTS then place_of (suc n) xs t else None

-- whether a text is one of these
abbrev pub is_among : List (List ℕ) → List ℕ → Bool
is_among xs t = list_any (λ x. bytes_eq x t) xs

-- texts with one more, each once
abbrev pub with_text : List (List ℕ) → List ℕ → List (List ℕ)
with_text xs t = if is_among xs t then xs else xs ++ t ∷ []

-- with the texts among words
abbrev pub with_words : List (List ℕ) → List Lexeme → List (List ℕ)
with_words xs [] = xs
with_words xs (Quoted t ∷ ws) = with_words (with_text xs t) ws
with_words xs (w ∷ ws) = with_words xs ws

-- whether statements of a row may assign or compare texts
abbrev pub has_literals : Row → Bool
has_literals row.Value = true
has_literals row.Test = true
has_literals row.Case = true
has_literals r = false

-- with those of a statement
abbrev pub with_line : List (List ℕ) → Logical → List (List ℕ)
with_line xs l = if has_literals (row_in (words_of l)) then with_words xs (words_of l) else xs

-- with those of statements
abbrev pub with_lines : List (List ℕ) → List Logical → List (List ℕ)
with_lines xs [] = xs
with_lines xs (l ∷ ls) = with_lines (with_line xs l) ls

-- with others
abbrev pub with_given : List (List ℕ) → List (List ℕ) → List (List ℕ)
with_given xs [] = xs
with_given xs (t ∷ ts) = with_given (with_text xs t) ts

-- the literals: all texts that the lines assign or compare, in the order of the text, each once, and then those that are given
abbrev pub literals : List (List ℕ) → List Logical → List (List ℕ)
literals given ls = with_given (with_lines [] ls) given

-- the number of a literal: its place among them, from 1 on; 0 where it is none
abbrev pub number_of : List (List ℕ) → List Logical → List ℕ → ℕ
number_of given ls t = found_or 0 (place_of 1 (literals given ls) t)

-- ---- all of it

-- whether a text has blanks alone
abbrev pub is_blank : List ℕ → Bool
is_blank bs = list_all (nat_eq 32) bs

-- whether two texts are one but for capitals and blanks at their ends
abbrev pub is_near : List ℕ → List ℕ → Bool
is_near [] ys = is_blank ys
is_near xs [] = is_blank xs
is_near (a ∷ xs) (b ∷ ys) = nat_eq (upper a) (upper b) && is_near xs ys

-- whether they are so, and differ: some machines take them for one text
abbrev pub is_twin : List ℕ → List ℕ → Bool
is_twin x y = is_near x y && not (bytes_eq x y)

-- whether two of these are
abbrev pub have_twins : List (List ℕ) → Bool
have_twins xs = list_any (λ x. list_any (is_twin x) xs) xs

-- no variable is counted where two texts are
abbrev pub unless_near : List (List ℕ) → List Held → List Held
unless_near xs hs = if have_twins xs then [] else hs

-- the texts of a program, with these variables: none of them is counted yet
abbrev pub texts_in : List (List ℕ) → List Logical → Texts
texts_in given ls = record { held = unless_near (literals given ls) (candidates ls); literals = literals given ls; parameters = with_all_parameters [] ls }

-- the number of a text that a variable may have: it has no more letters than the variable, and is no name of a parameter
abbrev pub number_for : Texts → ℕ → List ℕ → Option ℕ
number_for t most x = if nat_le (length x) most && not (is_parameter t.parameters x) then place_of 1 t.literals x else None
