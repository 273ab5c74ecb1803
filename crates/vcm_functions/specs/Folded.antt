-- Expressions with functions: calls by literals as their values, absolute values in relations opened.
use Rattle.std.specs.Prelude.{ℕ, ◌==◌, Bool, true, false, ◌&&◌, ◌||◌, if◌then◌else◌, List, [], ◌∷◌, ◌++◌}
use Rattle.vcm_lines.specs.Bytes.{is_blank, upper}
use Rattle.vcm_functions.specs.Words.{is_in_word}
use Rattle.vcm_functions.specs.Values.{function_of}
use Rattle.vcm_functions.specs.Calls.{is_named, eight_passes}
use Rattle.vcm_functions.specs.Relations.{opened_text}

-- the word that is read behind a byte: blanks stand for nothing
abbrev pub word_behind : List ℕ → ℕ → List ℕ
word_behind word b = if is_in_word b then word ++ upper b ∷ [] else if is_blank b then word else []

-- the same of bytes, behind this word
abbrev pub has_call : List ℕ → List ℕ → Bool
has_call word [] = false
has_call word (b ∷ bs) = (b == 40 && is_named (function_of word)) || has_call (word_behind word b) bs

-- whether the word of a function stands before a parenthesis, in a quoted text too
unfoldable pub has_function : List ℕ → Bool
has_function bs = has_call [] bs

-- an expression that may have a function, by whether it has one
abbrev pub folded_by : Bool → List ℕ → List ℕ
folded_by true bs = opened_text (eight_passes bs)
folded_by false bs = bs

-- an expression with each function that has a form without it in that form: calls by literals first, then absolute values in relations
abbrev pub folded : List ℕ → List ℕ
folded bs = folded_by (has_function bs) bs
