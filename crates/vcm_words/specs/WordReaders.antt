-- Readers of words, one after another.
use Rattle.std.specs.Prelude.{ℕ, ◌==◌, Bool, if◌then◌else◌, List, [], ◌∷◌, Option, Some, None, map}
use Rattle.vcm_num.specs.Words.{look_up}
use Rattle.vcm_words.specs.Numbers.{only_if}

-- what comes after a value that there is
infixl 10 ◌>>=◌
abbrev pub ◌>>=◌ : {A B : Type 0} → Option A → (A → Option B) → Option B
(Some x) >>= f = f x
None >>= f = None

-- a reader takes a value from the front, and leaves the words after it
abbrev pub Reader : Type 0 → Type 0
Reader A = List (List ℕ) → Option (A × List (List ℕ))

-- a value that takes no words
abbrev pub now : {A : Type 0} → A → Reader A
now x ws = Some (x, ws)

-- one word, by its meaning
abbrev pub one : {A : Type 0} → (List ℕ → Option A) → Reader A
one f [] = None
one f (w ∷ ws) = f w >>= λ x. Some (x, ws)

-- two values, one after the other
abbrev pub both : {A B : Type 0} → Reader A → Reader B → Reader (A × B)
both a b ws = a ws >>= λ x. b x.1 >>= λ y. Some ((x.0, y.0), y.1)

-- what a function makes of the value that is read
abbrev pub via : {A B : Type 0} → (A → B) → Reader A → Reader B
via f a ws = a ws >>= λ x. Some (f x.0, x.1)

-- what is read next depends on the first value
abbrev pub after : {A B : Type 0} → Reader A → (A → Reader B) → Reader B
after a f ws = a ws >>= λ x. f x.0 x.1

-- a value that meets the test
abbrev pub tested : {A : Type 0} → (A → Bool) → Reader A → Reader A
tested test a ws = a ws >>= λ x. only_if (test x.0) x

-- the value, if all of the words are read
abbrev pub ended : {A : Type 0} → Option (A × List (List ℕ)) → Option A
ended None = None
ended (Some (x, [])) = Some x
ended (Some (x, w ∷ ws)) = None

-- ---- meanings of one word

-- a mark, and what follows it
abbrev pub marked : {A : Type 0} → ℕ → (List ℕ → Option A) → List ℕ → Option A
marked mark f [] = None
marked mark f (b ∷ bs) = if b == mark then f bs else None

-- the first meaning, or else the second one
abbrev pub or_else : {A : Type 0} → Option A → Option A → Option A
or_else (Some x) o = Some x
or_else None o = o

-- one more byte in front of what stands before the mark
abbrev pub in_front : ℕ → Option (List ℕ) → Option (List ℕ)
in_front b None = None
in_front b (Some w) = Some (b ∷ w)

-- what stands before the mark, where the word ends with one
abbrev pub ending : ℕ → List ℕ → Option (List ℕ)
ending mark [] = None
ending mark (b ∷ []) = if b == mark then Some [] else None
ending mark (b ∷ c ∷ bs) = in_front b (ending mark (c ∷ bs))

-- ---- tables

-- the rows of a table: each value by its word
abbrev pub rows_of : {A : Type 0} → (A → List ℕ) → List A → List (List ℕ × A)
rows_of text xs = map (λ x. (text x, x)) xs

-- ---- both ways

-- how a value is written, and how it is read, exactly or for its shape
pub record Spelling (A : Type 0) : Type 0 where
  pub words : A → List (List ℕ)
  pub at : Bool → Reader A

-- a value of a table, by its word
abbrev pub named : {A : Type 0} → (A → List ℕ) → List A → Spelling A
named text xs = record { words = λ x. text x ∷ []; at = λ exact. one (look_up (rows_of text xs)) }
