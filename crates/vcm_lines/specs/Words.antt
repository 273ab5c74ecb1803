-- The words of a statement.
use Rattle.std.specs.Prelude.{◌≡◌, ℕ, ◌+◌, ◌==◌, ◌&&◌, not, Bool, false, List, [], ◌∷◌, length, drop, min, slice_index, if◌then◌else◌}
use Rattle.std.specs.List.{take_while}
use Rattle.vcm_lines.specs.Bytes.{is_run, is_digit, is_letter}
use Rattle.vcm_lines.specs.declared.logical.WordKind.{WordKind}
use Rattle.vcm_lines.specs.declared.logical.WordKind.TheVariants.{Run, Number, Dotted, Quoted, Mark}
use Rattle.vcm_lines.specs.declared.logical.Word.{Word}

-- how many bytes at the front pass a test
abbrev pub run_len : (ℕ → Bool) → List ℕ → ℕ
run_len p text = length (take_while p text)

-- the text has a first byte, and it passes a test
abbrev pub begins_with : (ℕ → Bool) → List ℕ → Bool
begins_with p [] = false
begins_with p (b ∷ bs) = p b

-- the text begins with a point that no letter follows, which makes a number of the digits before it
abbrev pub begins_fraction : List ℕ → Bool
begins_fraction [] = false
begins_fraction (b ∷ bs) = b == 46 && not (begins_with is_letter bs)

-- how many bytes a dotted word has: its point, the letters behind that, and the point behind these if there is one
abbrev pub dotted_len : List ℕ → ℕ
dotted_len after = let n = run_len is_letter after in if begins_with (λ b. b == 46) (drop n after) then n + 2 else n + 1

-- the word that begins with a letter, a digit or an underscore: a number, if it has digits alone and a fraction follows
abbrev pub run_word : List ℕ → WordKind × ℕ
run_word text = let n = run_len is_run text in
    if run_len is_digit text == n && begins_fraction (drop n text)
    then (Number, n + 1 + run_len is_digit (drop (n + 1) text))
    else (Run, n)

-- the word that begins with a point, what stands behind the point being given
abbrev pub point_word : List ℕ → WordKind × ℕ
point_word after =
    if begins_with is_digit after then (Number, run_len is_digit after + 1)
    else if begins_with is_letter after then (Dotted, dotted_len after)
    else (Mark, 1)

-- how many bytes a text has with its apostrophes, what stands behind the first one being given
abbrev pub text_len : List ℕ → ℕ
text_len after = min (run_len (λ c. not (c == 39)) after + 2) (length after + 1)

-- the first word: what it is made of, and how many bytes it has
unfoldable pub first_word : List ℕ → WordKind × ℕ
first_word [] = (Mark, 0)
first_word (b ∷ after) =
    if is_run b then run_word (b ∷ after)
    else if b == 46 then point_word after
    else if b == 39 then (Quoted, text_len after)
    else (Mark, 1)

-- the first word of what is left of a statement from the place `start` on; `lines` has the line of each byte of the statement
abbrev pub word_from : List ℕ → List ℕ → ℕ → Word
word_from lines text start = record {
  start = start;
  end = start + (first_word text).1;
  line = slice_index lines start;
  kind = (first_word text).0;
}

-- these are the words of what is left of a statement from the place `start` on, one behind the other, up to its end
abbrev pub AreWords : List ℕ → List ℕ → ℕ → List Word → Type 0
AreWords lines text start [] = text ≡ []
AreWords lines text start (w ∷ ws) =
    (text ≡ [] → ⊥) × (w ≡ word_from lines text start) × AreWords lines (drop (first_word text).1 text) (start + (first_word text).1) ws
