-- The lines of a text.
use Rattle.std.specs.Prelude.{ℕ, suc, ◌==◌, List, [], ◌∷◌, take, drop, Option, Some, None, if◌then◌else◌}
use Rattle.std.specs.List.{onto_first, position}

-- the lines of a text, each with its line feed, which the last one may lack
unfoldable pub whole_lines : List ℕ → List (List ℕ)
whole_lines [] = []
whole_lines (b ∷ bs) = if b == 10 then (b ∷ []) ∷ whole_lines bs else onto_first b (whole_lines bs)

-- the bytes before this place, all where there is none
abbrev pub before_place : List ℕ → Option ℕ → List ℕ
before_place text None = text
before_place text (Some n) = take n text

-- the bytes after this place
abbrev pub after_place : List ℕ → Option ℕ → List ℕ
after_place text None = []
after_place text (Some n) = drop (suc n) text

-- the first line of a text, without its line feed
abbrev pub first_line : List ℕ → List ℕ
first_line text = before_place text (position (λ b. b == 10) text)

-- what stands after it
abbrev pub after_line : List ℕ → List ℕ
after_line text = after_place text (position (λ b. b == 10) text)
