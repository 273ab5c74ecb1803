-- Lists in a listing: their values between two marks, a word each.
use Rattle.std.specs.Prelude.{ℕ, List, [], ◌∷◌, ◌++◌, Option, Some, None}
use Rattle.vcm_words.specs.WordReaders.{◌>>=◌, Reader, marked, ending}

-- ---- writing

-- the words of the values, the last one with a mark behind it
abbrev pub closed : {A : Type 0} → ℕ → (A → List ℕ) → List A → List (List ℕ)
closed mark text [] = (mark ∷ []) ∷ []
closed mark text (x ∷ []) = (text x ++ mark ∷ []) ∷ []
closed mark text (x ∷ y ∷ xs) = text x ∷ closed mark text (y ∷ xs)

-- a mark before the first word
abbrev pub opened : ℕ → List (List ℕ) → List (List ℕ)
opened mark [] = []
opened mark (w ∷ ws) = (mark ∷ w) ∷ ws

-- ---- reading

-- the last value of a list, or one with more behind it
abbrev pub last_or_more : {A : Type 0} → (List ℕ → Option A) → List ℕ → List (List ℕ) → Option (List ℕ) → Option (List A × List (List ℕ))
    → Option (List A × List (List ℕ))
last_or_more f w ws (Some last) more = f last >>= λ x. Some (x ∷ [], ws)
last_or_more f w ws None more = f w >>= λ x. more >>= λ xs. Some (x ∷ xs.0, xs.1)

-- values up to the closing mark, at least one
unfoldable pub up_to : {A : Type 0} → ℕ → (List ℕ → Option A) → Reader (List A)
up_to mark f [] = None
up_to mark f (w ∷ ws) = last_or_more f w ws (ending mark w) (up_to mark f ws)

-- what stands behind the opening mark of a word
abbrev pub opening : ℕ → List ℕ → Option (List ℕ)
opening mark w = marked mark (λ bs. Some bs) w

-- the words without the mark before the first
abbrev pub unopened : ℕ → List (List ℕ) → Option (List (List ℕ))
unopened mark [] = None
unopened mark (w ∷ ws) = opening mark w >>= λ v. Some (v ∷ ws)

-- values between two marks, at least one
unfoldable pub between : {A : Type 0} → (left right : ℕ) → (List ℕ → Option A) → Reader (List A)
between left right f ws = unopened left ws >>= up_to right f
