-- What is taken from the front of a list, one element after the other.
use Rattle.std.proofs.Common.{◌≡◌, ℕ, zero, suc, ◌+◌, ◌<◌, ◌≤◌, List, [], ◌∷◌, ◌++◌, length, take, Some, sym, ap, ◌∙◌, arith}
use Rattle.std.specs.Prelude.{slice_get}
use Rattle.std.proofs.lemmas.List.{take_all}

take_next : {X : Type 0} → (i : ℕ) (all : List X) (x : X) → slice_get all i ≡ Some x → take (i + 1) all ≡ take i all ++ x ∷ []
take_next i [] x e = absurd cc
take_next zero (y ∷ ys) x e = (let same : y ≡ x = cc in ap (λ z. z ∷ []) same)
take_next (suc i) (y ∷ ys) x e = (let k : suc i + 1 ≡ suc (i + 1) = omega arith in ap (λ j. take j (y ∷ ys)) k ∙ ap (λ l. y ∷ l) (take_next i ys x e))

pub there : {X : Type 0} → (i : ℕ) (all : List X) (x : X) → slice_get all i ≡ Some x → i < length all
there i [] x e = absurd cc
there zero (y ∷ ys) x e = omega arith
there (suc i) (y ∷ ys) x e = (let l = there i ys x e in omega arith)

pub one_more : {X : Type 0} → (xs : List X) (x : X) (i : ℕ) (all : List X) → xs ≡ take i all → slice_get all i ≡ Some x → xs ++ x ∷ [] ≡ take (i + 1) all
one_more xs x i all h e = ap (λ l. l ++ x ∷ []) h ∙ sym (take_next i all x e)

pub all_taken : {X : Type 0} → (xs : List X) (i : ℕ) (all : List X) → xs ≡ take i all → length all ≤ i → xs ≡ all
all_taken xs i all h l = h ∙ take_all i all l
