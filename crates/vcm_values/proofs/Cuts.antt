-- Lines that are written one by one.
use Rattle.std.proofs.Common.{◌≡◌, ℕ, zero, suc, ◌+◌, ◌<◌, List, [], ◌∷◌, ◌++◌, length, take, drop, refl, ap, ◌∙◌, append_assoc, get_or, arith}
use Rattle.std.specs.List.{flat_map}

-- what comes of the items before the i-th, of that one, and of those after it
pub items_cut : {X : Type 0} (f : X → List ℕ) (xs : List X) (i : ℕ) (d : X) → i < length xs
    → flat_map f (take i xs) ++ (f (get_or xs i d) ++ flat_map f (drop (i + 1) xs)) ≡ flat_map f xs
items_cut f [] i d l = absurd (omega arith)
items_cut f (x ∷ xs) zero d l = refl
items_cut f (x ∷ xs) (suc i) d l =
    append_assoc (f x) (flat_map f (take i xs)) _
    ∙ ap (λ n. f x ++ (flat_map f (take i xs) ++ (f (get_or xs i d) ++ flat_map f (drop n (x ∷ xs))))) (let e : suc i + 1 ≡ suc (i + 1) = omega arith in e)
    ∙ ap (λ l. f x ++ l) (items_cut f xs i d (omega arith))
