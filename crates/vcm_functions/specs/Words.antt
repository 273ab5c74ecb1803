-- Words in expressions.
use Rattle.std.specs.Prelude.{ℕ, ◌==◌, Bool, not, ◌||◌, List, map}
use Rattle.std.specs.Char.{is_ascii_digit, is_ascii_alphabetic}
use Rattle.std.specs.List.{filter}
use Rattle.vcm_lines.specs.Bytes.{is_blank, upper}

-- whether a byte is one of a word: a letter, a digit, or an underscore
abbrev pub is_in_word : ℕ → Bool
is_in_word b = is_ascii_alphabetic b || (is_ascii_digit b || b == 95)

-- the word that bytes are: without blanks, in upper case
abbrev pub word_of : List ℕ → List ℕ
word_of bs = map upper (filter (λ b. not (is_blank b)) bs)
