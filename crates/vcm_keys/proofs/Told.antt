-- What is told is unused, and what is unused is told.
use Rattle.std.proofs.Common.{◌≡◌, Bool, true, false, ◌&&◌, ◌||◌, not, List, [], ◌∷◌, ◌++◌, filter, subst, refl, sym, ◌∙◌}
use Rattle.std.specs.List.{list_all, list_any}
use Rattle.std.proofs.lemmas.List.{append_assoc}
use Rattle.std.proofs.lemmas.List.Folds.{list_all-append, list_any-append}

or_true : (b : Bool) → (b || true) ≡ true
or_true true = refl
or_true false = refl

and_true : (a b : Bool) → a ≡ true → b ≡ true → (a && b) ≡ true
and_true a b e h = rw e h

second_true : (a b : Bool) → (a && b) ≡ true → b ≡ true
second_true true b e = e
second_true false b e = absurd (let no_such : false ≡ true = e in cc)

first_true : (a b : Bool) → (a && b) ≡ true → a ≡ true
first_true true b e = refl
first_true false b e = e

module _ {X : Type 0} where
  passes : (p : X → Bool) (xs : List X) → list_all p (filter p xs) ≡ true
  passes p [] = refl
  passes p (x ∷ xs) = by (passes p xs) (p x) refl
    where
      by : list_all p (filter p xs) ≡ true → (b : Bool) → p x ≡ b → list_all p (filter p (x ∷ xs)) ≡ true
      by rest true e = rw e (and_true (p x) _ e rest)
      by rest false e = rw e rest

  kept : (p q : X → Bool) (xs : List X) → list_all p xs ≡ true → list_all p (filter q xs) ≡ true
  kept p q [] h = refl
  kept p q (x ∷ xs) h = by (kept p q xs (second_true (p x) (list_all p xs) h)) (q x) refl
    where
      by : list_all p (filter q xs) ≡ true → (b : Bool) → q x ≡ b → list_all p (filter q (x ∷ xs)) ≡ true
      by rest true e = rw e (and_true (p x) _ (first_true (p x) (list_all p xs) h) rest)
      by rest false e = rw e rest

module _ {X : Type 0} (same : X → X → Bool) (itself : (x : X) → same x x ≡ true) where
  abbrev pub among : List X → X → Bool
  among ps q = list_any (λ p. same p q) ps

  here : (before behind : List X) (x : X) → among (before ++ x ∷ behind) x ≡ true
  here [] behind x = rw (itself x) refl
  here (b ∷ before) behind x = rw (here before behind x) (or_true (same b x))

  in_front : (front behind : List X) (x : X) → among front x ≡ true → among (front ++ behind) x ≡ true
  in_front front behind x h = rw (list_any-append (λ p. same p x) front behind, h) refl

  all_among : (front xs : List X) → list_all (among (front ++ xs)) xs ≡ true
  all_among front [] = refl
  all_among front (x ∷ xs) =
      and_true (among (front ++ x ∷ xs) x) _ (here front xs x) (subst (λ (l : List X). list_all (among l) xs ≡ true) (append_assoc front (x ∷ []) xs) (all_among (front ++ x ∷ []) xs))

  pub told_are_unused : (places standing unused : List X) → list_all (among unused) (filter (among unused) places ++ filter (λ u. not (among standing u)) unused) ≡ true
  told_are_unused places standing unused =
      list_all-append (among unused) _ _ ∙ and_true _ _ (passes (among unused) places) (kept (among unused) (λ u. not (among standing u)) unused (all_among [] unused))

  pub unused_are_told : (standing front unused : List X) → list_all (among (standing ++ (front ++ filter (λ u. not (among standing u)) unused))) unused ≡ true
  unused_are_told standing front [] = refl
  unused_are_told standing front (u ∷ us) = by (unused_are_told standing front us) (unused_are_told standing (front ++ u ∷ []) us) (among standing u) refl
    where
      absent : List X
      absent = filter (λ v. not (among standing v)) us

      by : list_all (among (standing ++ (front ++ absent))) us ≡ true → list_all (among (standing ++ ((front ++ u ∷ []) ++ absent))) us ≡ true
          → (b : Bool) → among standing u ≡ b → list_all (among (standing ++ (front ++ filter (λ v. not (among standing v)) (u ∷ us)))) (u ∷ us) ≡ true
      by same more true e =
          let none : filter (λ v. not (among standing v)) (u ∷ us) ≡ absent = rw e refl in
          subst (λ (l : List X). list_all (among (standing ++ (front ++ l))) (u ∷ us) ≡ true) (sym none) (and_true _ _ (in_front standing (front ++ absent) u e) same)
      by same more false e =
          let one : filter (λ v. not (among standing v)) (u ∷ us) ≡ u ∷ absent = rw e refl in
          subst (λ (l : List X). list_all (among (standing ++ (front ++ l))) (u ∷ us) ≡ true) (sym one) (and_true _ _
          (subst (λ (l : List X). among l u ≡ true) (append_assoc standing front (u ∷ absent)) (here (standing ++ front) absent u))
          (subst (λ (l : List X). list_all (among (standing ++ l)) us ≡ true) (append_assoc front (u ∷ []) absent) more))
