-- The names of blocks as a list of texts.
use Rattle.std.proofs.Common.{◌≡◌, ℕ, zero, suc, List, [], ◌∷◌, map, slice_get, slice_set, Option, refl, ap, ◌∙◌}
use Rattle.std.specs.Prelude.{unwrap_or, option_map}
use Rattle.std.proofs.lemmas.Option.{slice_get-map}

module _ {A B : Type 0} (f : A → B) where
  -- what stands at a place
  pub map_at : (xs : List A) (i : ℕ) (o : Option A) (d : B) → slice_get xs i ≡ o → unwrap_or (slice_get (map f xs) i) d ≡ unwrap_or (option_map f o) d
  map_at xs i o d e = ap (λ x. unwrap_or x d) (slice_get-map f xs i ∙ ap (option_map f) e)

  -- what is set there
  pub map_set : (xs : List A) (i : ℕ) (x : A) (y : B) → f x ≡ y → map f (slice_set xs i x) ≡ slice_set (map f xs) i y
  map_set [] i x y e = refl
  map_set (z ∷ xs) zero x y e = ap (λ v. v ∷ map f xs) e
  map_set (z ∷ xs) (suc i) x y e = ap (λ l. f z ∷ l) (map_set xs i x y e)
