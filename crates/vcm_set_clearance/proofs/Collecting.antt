-- Items that a loop makes of those of a list, one after another.
use Rattle.std.proofs.Common.{◌≡◌, ℕ, ◌+◌, ◌<◌, ◌≤◌, List, [], ◌∷◌, ◌++◌, length, get_or, drop, refl, sym, ap, ◌∙◌, append_assoc}
use Rattle.std.specs.Prelude.{map}
use Rattle.std.proofs.lemmas.List.{append-nil, drop_all, drop_more}

module _ {A B : Type 0} (f : A → B) (xs : List A) where
  -- those that are made and those that are left
  abbrev pub AreSoFar : List B → ℕ → Type 0
  AreSoFar ys n = map f xs ≡ ys ++ map f (drop n xs)

  pub one_more : (ys : List B) (n : ℕ) (a : A) (b : B) → n < length xs → get_or xs n a ≡ a → b ≡ f a → AreSoFar ys n → AreSoFar (ys ++ b ∷ []) (n + 1)
  one_more ys n a b l at is h =
      let here : drop n xs ≡ a ∷ drop (n + 1) xs = drop_more xs n a l ∙ ap (λ x. x ∷ drop (n + 1) xs) at in
      h ∙ ap (λ l. ys ++ map f l) here ∙ sym (append_assoc ys (f a ∷ []) (map f (drop (n + 1) xs))) ∙ ap (λ x. (ys ++ x ∷ []) ++ map f (drop (n + 1) xs)) (sym is)

  pub all_made : (ys : List B) (n : ℕ) → length xs ≤ n → AreSoFar ys n → ys ≡ map f xs
  all_made ys n l h = sym (h ∙ ap (λ l. ys ++ map f l) (drop_all n xs l) ∙ append-nil ys)

-- things that stand for the items of a list, each made of one
module _ {A B : Type 0} (g : B → A) (xs : List A) where
  -- what those that are made stand for, and the items that are left
  abbrev pub StandSoFar : List B → ℕ → Type 0
  StandSoFar ys n = xs ≡ map g ys ++ drop n xs

  map_more : (ys : List B) (b : B) → map g (ys ++ b ∷ []) ≡ map g ys ++ g b ∷ []
  map_more [] b = refl
  map_more (y ∷ ys) b = ap (λ l. g y ∷ l) (map_more ys b)

  pub one_stands : (ys : List B) (n : ℕ) (a : A) (b : B) → n < length xs → get_or xs n a ≡ a → g b ≡ a → StandSoFar ys n → StandSoFar (ys ++ b ∷ []) (n + 1)
  one_stands ys n a b l at is h =
      let here : drop n xs ≡ a ∷ drop (n + 1) xs = drop_more xs n a l ∙ ap (λ x. x ∷ drop (n + 1) xs) at in
      h ∙ ap (λ l. map g ys ++ l) here ∙ sym (append_assoc (map g ys) (a ∷ []) (drop (n + 1) xs)) ∙ ap (λ x. (map g ys ++ x ∷ []) ++ drop (n + 1) xs) (sym is)
      ∙ ap (λ l. l ++ drop (n + 1) xs) (sym (map_more ys b))

  pub all_stand : (ys : List B) (n : ℕ) → length xs ≤ n → StandSoFar ys n → map g ys ≡ xs
  all_stand ys n l h = sym (h ∙ ap (λ l. map g ys ++ l) (drop_all n xs l) ∙ append-nil (map g ys))
