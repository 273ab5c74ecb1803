-- Lines of the listing, one by one.
use Rattle.std.proofs.Common.{◌≡◌, ℕ, zero, suc, ◌+◌, ◌<◌, List, [], ◌∷◌, ◌++◌, length, drop, Option, Some, refl, ap, ◌∙◌, subst, arith}
use Rattle.std.specs.Prelude.{slice_get}
use Rattle.std.specs.Io.KnownBytes.{Appends}
use Rattle.vcm_num.specs.Written.{AppendsFront}
use Rattle.vcm_words.specs.Rows.{ListRow}
use Rattle.vcm_print.specs.inner.Written.{lines}
use Rattle.vcm_print.specs.Listed.{listed}
use Rattle.vcm_print.proofs.Steps.{TookUpTo, took_more, took_front}

first_line : {A : Type 0} (f : ℕ → A → ListRow) (k : ℕ) (x : A) (xs : List A) → lines f k (x ∷ xs) ≡ listed (f k x) ++ lines f (k + 1) xs
unfolding listed
first_line f k x xs = ap (λ m. listed (f k x) ++ lines f m xs) (let e : suc k ≡ k + 1 = omega arith in e)

-- the line at a place, and those behind it
pub lines_at : {A : Type 0} (f : ℕ → A → ListRow) (i k : ℕ) (xs : List A) → i < length xs → (x : A) × (slice_get xs i ≡ Some x)
    × (lines f k (drop i xs) ≡ listed (f k x) ++ lines f (k + 1) (drop (i + 1) xs))
lines_at f i k [] l = absurd (omega arith)
lines_at f zero k (x ∷ xs) l = (x, refl, first_line f k x xs)
lines_at f (suc i) k (x ∷ xs) l =
    let r = lines_at f i k xs (omega arith) in
    (r.0, r.1, r.2 ∙ ap (λ m. listed (f k r.0) ++ lines f (k + 1) (drop m (x ∷ xs))) (let e : suc (i + 1) ≡ suc i + 1 = omega arith in e))

same : {A : Type 0} (o : Option A) (x y : A) → o ≡ Some x → o ≡ Some y → x ≡ y
same o x y e h = cc

-- these bytes are the line at a place
bytes_at : {A : Type 0} (f : ℕ → A → ListRow) (i : ℕ) (xs : List A) (x y : A) (bytes : List ℕ) → slice_get xs i ≡ Some x → slice_get xs i ≡ Some y → bytes ≡ listed (f i x) → bytes ≡ listed (f i y)
bytes_at f i xs x y bytes g h e = e ∙ ap (λ z. listed (f i z)) (same (slice_get xs i) x y g h)

-- the line at a place was written
pub line_took : {A : Type 0} (f : ℕ → A → ListRow) (i : ℕ) (xs : List A) (x : A) (bytes : List ℕ) (a b c : Option (List ℕ)) (all : List ℕ) → i < length xs
    → slice_get xs i ≡ Some x → bytes ≡ listed (f i x) → TookUpTo a b (lines f i (drop i xs)) all → Appends b c bytes
    → TookUpTo a c (lines f (i + 1) (drop (i + 1) xs)) all
line_took f i xs x bytes a b c all l g e t h =
    let r = lines_at f i i xs l in
    took_more a b c (listed (f i r.0)) (lines f (i + 1) (drop (i + 1) xs)) (lines f i (drop i xs)) all r.2 t (subst (λ z. Appends b c z) (bytes_at f i xs x r.0 bytes g r.1 e) h)

-- the writing of the line at a place failed
pub line_front : {A : Type 0} (f : ℕ → A → ListRow) (i : ℕ) (xs : List A) (x : A) (bytes : List ℕ) (a b c : Option (List ℕ)) (all : List ℕ) → i < length xs
    → slice_get xs i ≡ Some x → bytes ≡ listed (f i x) → TookUpTo a b (lines f i (drop i xs)) all → AppendsFront b c bytes → AppendsFront a c all
line_front f i xs x bytes a b c all l g e t h =
    let r = lines_at f i i xs l in
    took_front a b c (listed (f i r.0)) (lines f (i + 1) (drop (i + 1) xs)) (lines f i (drop i xs)) all r.2 t (subst (λ z. AppendsFront b c z) (bytes_at f i xs x r.0 bytes g r.1 e) h)
