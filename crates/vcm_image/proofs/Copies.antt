-- Lists that are copied one by one.
use Rattle.std.proofs.Common.{◌≡◌, ℕ, zero, suc, ◌+◌, List, [], ◌∷◌, ◌++◌, take, Some, slice_get, sym, ap, ◌∙◌, arith}

take_more : {A : Type 0} (xs : List A) (n : ℕ) (x : A) → slice_get xs n ≡ Some x → take n xs ++ x ∷ [] ≡ take (suc n) xs
take_more [] n x e = absurd cc
take_more (y ∷ ys) zero x e = let same : y ≡ x = cc in ap (λ z. z ∷ []) (sym same)
take_more (y ∷ ys) (suc n) x e = ap (λ l. y ∷ l) (take_more ys n x e)

-- one more is copied
pub copied_more : {A : Type 0} (xs copies more : List A) (n : ℕ) (x : A) → copies ≡ take n xs → slice_get xs n ≡ Some x → more ≡ copies ++ x ∷ [] → more ≡ take (n + 1) xs
copied_more xs copies more n x h e m =
    let next : suc n ≡ n + 1 = omega arith in
    m ∙ ap (λ l. l ++ x ∷ []) h ∙ take_more xs n x e ∙ ap (λ k. take k xs) next
