-- What is taken of an input, step by step.
use Rattle.std.proofs.Common.{◌≡◌, ◌≢◌, ℕ, zero, suc, ◌<◌, List, [], ◌∷◌, ◌++◌, length, take, get_or, Option, Some, None, refl, sym, ap, ◌∙◌, append_assoc, arith}
use Rattle.std.specs.Io.KnownBytes.{Consumes}

pub takes_nothing : (a : Option (List ℕ)) → Consumes a a []
takes_nothing None = tt
takes_nothing (Some xs) = refl

pub takes_more : (a b c : Option (List ℕ)) (xs ys zs : List ℕ) → xs ++ ys ≡ zs → Consumes a b xs → Consumes b c ys → Consumes a c zs
takes_more None b c xs ys zs e h k = tt
takes_more (Some p) None c xs ys zs e h k = absurd h
takes_more (Some p) (Some q) None xs ys zs e h k = absurd k
takes_more (Some p) (Some q) (Some r) xs ys zs e h k = h ∙ ap (λ l. xs ++ l) k ∙ sym (append_assoc xs ys r) ∙ ap (λ l. l ++ r) e

-- what follows one front
pub after_front : (p xs ys : List ℕ) → p ++ xs ≡ p ++ ys → xs ≡ ys
after_front [] xs ys e = e
after_front (b ∷ p) xs ys e = let tails : p ++ xs ≡ p ++ ys = cc in after_front p xs ys tails

-- a text is cut at one place
pub cut_at : (m o xs ys : List ℕ) → length m ≡ length o → m ++ xs ≡ o ++ ys → (m ≡ o) × (xs ≡ ys)
cut_at [] [] xs ys l e = (refl, e)
cut_at [] (b ∷ o) xs ys l e = absurd (omega (arith, l))
cut_at (a ∷ m) [] xs ys l e = absurd (omega (arith, l))
cut_at (a ∷ m) (b ∷ o) xs ys l e =
    let tails : m ++ xs ≡ o ++ ys = cc in
    let heads : a ≡ b = cc in
    let i = cut_at m o xs ys (omega (arith, l)) tails in
    (cc (heads, i.0), i.1)

-- a text that another byte than its own stands in
pub differs : (w rest xs : List ℕ) (i b : ℕ) → i < length w → b ≢ get_or w i 0 → w ++ rest ≢ take i w ++ b ∷ xs
differs [] rest xs i b h ne e = absurd (omega (arith, h))
differs (a ∷ w) rest xs zero b h ne e = let heads : a ≡ b = cc in ne (sym heads)
differs (a ∷ w) rest xs (suc i) b h ne e =
    let tails : w ++ rest ≡ take i w ++ b ∷ xs = cc in
    differs w rest xs i b (omega (arith, h)) ne tails
