-- What parts of a line mean.
use Rattle.std.specs.Prelude.{◌≡◌, ℕ, ◌<◌, length, Bool, true, false, List, [], Option, Some, None}
use Rattle.vcm_words.specs.inner.Counting.{IsCount}
use Rattle.vcm_words.specs.Enclosed.{up_to}

-- what was read, or nothing
abbrev pub read_or_nil : {A : Type 0} → Option (List A × List (List ℕ)) → List A
read_or_nil (Some x) = x.0
read_or_nil None = []

-- the values up to the closing mark; none where it is passed
abbrev pub values_left : {A : Type 0} → ℕ → (List ℕ → Option A) → Bool → List (List ℕ) → List A
values_left mark f true ws = []
values_left mark f false ws = read_or_nil (up_to mark f ws)

-- there are values up to a closing mark, or it is passed
abbrev pub AreLeft : {A : Type 0} → ℕ → (List ℕ → Option A) → Bool → List (List ℕ) → Type 0
AreLeft mark f true ws = Unit {0}
AreLeft {A} mark f false ws = (x : List A × List (List ℕ)) × (up_to mark f ws ≡ Some x)

-- values up to the closing mark, how many they are, and the words behind it
abbrev pub Found : {A : Type 0} → ℕ → (List ℕ → Option A) → ℕ → List (List ℕ) → ℕ → List (List ℕ) → Type 0
Found {A} mark f most words count more =
    (xs : List A) × (up_to mark f words ≡ Some (xs, more)) × IsCount most count (length xs) × (0 < length xs)
