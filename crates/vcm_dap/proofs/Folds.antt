-- Sessions that are changed by one item after another.
use Rattle.std.proofs.Common.{◌≡◌, ℕ, zero, suc, ◌+◌, List, [], ◌∷◌, map, drop, refl, ap, ◌∙◌, add-one}
use Rattle.std.specs.Prelude.{fold, slice_get, option_map, Option, Some, None}
use Rattle.vcm_debug.specs.Debugging.{Debugging}

-- the count stays, if it does with each item
pub fold_count : {A : Type 0} (f : Debugging → A → Debugging) → ((d : Debugging) (x : A) → (f d x).count ≡ d.count) → (d : Debugging) (xs : List A)
    → (fold f d xs).count ≡ d.count
fold_count f stays d [] = refl
fold_count f stays d (x ∷ xs) = fold_count f stays (f d x) xs ∙ stays d x

-- one item more
fold_step : {A B : Type 0} (f : Debugging → B → Debugging) (g : A → B) (d : Debugging) (xs : List A) (i : ℕ) (y : B) → option_map g (slice_get xs i) ≡ Some y
    → fold f d (map g (drop i xs)) ≡ fold f (f d y) (map g (drop (suc i) xs))
fold_step f g d [] i y e = cc
fold_step {B = B} f g d (x ∷ xs) zero y e = ap (λ (o : Option B). fold f (after o) (map g xs)) e
  where
    after : Option B → Debugging
    after None = d
    after (Some z) = f d z
fold_step f g d (x ∷ xs) (suc i) y e = fold_step f g d xs i y e

-- the same, behind those that were passed
pub fold_next : {A B : Type 0} (f : Debugging → B → Debugging) (g : A → B) (d new all : Debugging) (xs : List A) (i : ℕ) (y : B)
    → option_map g (slice_get xs i) ≡ Some y → new ≡ f d y → fold f d (map g (drop i xs)) ≡ all → fold f new (map g (drop (i + 1) xs)) ≡ all
fold_next f g d new all xs i y e n h = rw (add-one, n, ← fold_step f g d xs i y e) h
