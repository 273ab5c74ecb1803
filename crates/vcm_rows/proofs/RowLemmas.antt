-- Rows that are written one by one.
use Rattle.std.proofs.Common.{◌≡◌, ℕ, zero, suc, ◌+◌, ◌-◌, ◌<◌, List, [], ◌∷◌, ◌++◌, length, take, drop, Option, refl, sym, ap, ◌∙◌, append_assoc, get_or, arith}
use Rattle.std.specs.Prelude.{flat_map}
use Rattle.std.specs.Io.KnownBytes.{Appends}
use Rattle.std.proofs.lemmas.List.{append-nil}
use Rattle.vcm_num.specs.Written.{AppendsFront}
use Rattle.vcm_num.proofs.KnownWrites.{appends_more, front_then, front_first}
use Rattle.vcm_rows.specs.Rows.{rows_below}

-- the rows of the things before the i-th, its row, and those behind it
pub flat_cut : {A : Type 0} (row : A → List ℕ) (xs : List A) (i : ℕ) (d : A) → i < length xs
    → flat_map row (take i xs) ++ (row (get_or xs i d) ++ flat_map row (drop (i + 1) xs)) ≡ flat_map row xs
flat_cut row [] i d l = absurd (omega arith)
flat_cut row (x ∷ xs) zero d l = refl
flat_cut row (x ∷ xs) (suc i) d l =
    append_assoc (row x) (flat_map row (take i xs)) _
    ∙ ap (λ n. row x ++ (flat_map row (take i xs) ++ (row (get_or xs i d) ++ flat_map row (drop n (x ∷ xs))))) (let e : suc i + 1 ≡ suc (i + 1) = omega arith in e)
    ∙ ap (λ l. row x ++ l) (flat_cut row xs i d (omega arith))

-- the rows behind the first so many
more_rows : (row : ℕ → List ℕ) (k j : ℕ) → (rest : List ℕ) × (rows_below row k ++ rest ≡ rows_below row (k + j))
more_rows row k zero = ([], append-nil (rows_below row k) ∙ ap (rows_below row) (let e : k ≡ k + zero = omega arith in e))
more_rows row k (suc j) =
    let r = more_rows row k j in
    (r.0 ++ row (k + j), sym (append_assoc (rows_below row k) r.0 (row (k + j))) ∙ ap (λ x. x ++ row (k + j)) r.1 ∙ ap (rows_below row) (let e : suc (k + j) ≡ k + suc j = omega arith in e))

module _ (row : ℕ → List ℕ) (k : ℕ) (a b d : Option (List ℕ)) (h : Appends a b (rows_below row k)) where
  pub one_row : Appends b d (row k) → Appends a d (rows_below row (k + 1))
  one_row w = appends_more a b d _ _ _ (ap (rows_below row) (let e : suc k ≡ k + 1 = omega arith in e)) h w

  pub row_front : (n : ℕ) → k < n → AppendsFront b d (row k) → AppendsFront a d (rows_below row n)
  row_front n l w =
      let r = more_rows row (suc k) (n - suc k) in
      let all : suc k + (n - suc k) ≡ n = omega (arith, l) in
      let whole : rows_below row k ++ (row k ++ r.0) ≡ rows_below row n =
      sym (append_assoc (rows_below row k) (row k) r.0) ∙ r.1 ∙ ap (rows_below row) all in
      front_then a b d _ _ _ whole h (front_first b d _ r.0 _ refl w)
