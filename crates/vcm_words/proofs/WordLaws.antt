-- Single words and their meanings.
use Rattle.std.proofs.Common.{◌≡◌, ◌⊎◌, ℕ, ◌==◌, Bool, true, false, cond, inl, inr, List, [], ◌∷◌, ◌++◌, Option, Some, None, refl, ap, ◌∙◌, subst, arith}
use Rattle.std.proofs.lemmas.Bool.{eqb-true}
use Rattle.vcm_words.specs.inner.Marks.{Without}
use Rattle.vcm_words.specs.WordReaders.{◌>>=◌, one, marked, or_else, in_front, ending}
use Rattle.vcm_words.specs.Enclosed.{opening}
use Rattle.vcm_words.proofs.Inverse.{Means, some_is}
use Rattle.std.specs.Option.{option_map}

pub or_else_takes : {A : Type 0} (o p : Option A) (x : A) → or_else o p ≡ Some x → (o ≡ Some x) ⊎ (p ≡ Some x)
or_else_takes (Some y) p x e = inl e
or_else_takes None p x e = inr e

pub option_map_takes : {A B : Type 0} (f : A → B) (o : Option A) (y : B) → option_map f o ≡ Some y → (x : A) × (o ≡ Some x) × (f x ≡ y)
option_map_takes f None y e = absurd cc
option_map_takes f (Some x) y e = (x, refl, some_is _ _ e)

pub marked_takes : {A : Type 0} (mark : ℕ) (f : List ℕ → Option A) (w : List ℕ) (x : A) → marked mark f w ≡ Some x → (bs : List ℕ) × (w ≡ mark ∷ bs) × (f bs ≡ Some x)
marked_takes mark f [] x e = absurd cc
marked_takes mark f (b ∷ bs) x e = split (b == mark) refl e
  where
    split : (t : Bool) → (b == mark) ≡ t → cond t (f bs) None ≡ Some x → (cs : List ℕ) × (b ∷ bs ≡ mark ∷ cs) × (f cs ≡ Some x)
    split true t g = (bs, ap (λ c. c ∷ bs) (eqb-true b mark t), g)
    split false t g = absurd cc

pub means_marked : {A : Type 0} {f : List ℕ → Option A} {s : A → List ℕ} {P : A → Type 0} (mark : ℕ) → (mark == 32) ≡ false → (mark == 10) ≡ false → Means f s P
    → Means (marked mark f) (λ x. mark ∷ s x) P
means_marked {A} {f} {s} {P} mark h g m = record {
  takes = λ w x e. let p = marked_takes mark f w x e in let t = m.takes p.0 x p.2 in (p.1 ∙ ap (λ r. mark ∷ r) t.0, t.1);
  again = λ x q. let same : (mark == mark) ≡ true = grind arith in rw same (m.again x q);
  words = λ x q. let w = m.words x q in ((h, w.0), (g, w.1));
}

-- a value with the words behind it
abbrev pub before : {A : Type 0} → List (List ℕ) → A → Option (A × List (List ℕ))
before ws x = Some (x, ws)

-- what stands behind a mark is cut off first, and has its meaning then
pub behind_mark : {A : Type 0} (mark : ℕ) (f : List ℕ → Option A) (ws : List (List ℕ)) → one (marked mark f) ws ≡ (one (opening mark) ws >>= λ x. f x.0 >>= before x.1)
behind_mark mark f [] = refl
behind_mark mark f ([] ∷ ws) = refl
behind_mark mark f ((b ∷ bs) ∷ ws) = by (b == mark)
  where
    by : (t : Bool) → (cond t (f bs) None >>= before ws) ≡ ((cond t (Some bs) None >>= before ws) >>= λ x. f x.0 >>= before x.1)
    by true = refl
    by false = refl

-- ---- a mark at the end

pub ending_none : (mark : ℕ) (w : List ℕ) → Without mark w → ending mark w ≡ None
ending_none mark [] h = refl
ending_none mark (b ∷ []) h = rw h.0 refl
ending_none mark (b ∷ c ∷ bs) h = rw (ending_none mark (c ∷ bs) h.1) refl

pub ending_some : (mark : ℕ) (w : List ℕ) → ending mark (w ++ mark ∷ []) ≡ Some w
ending_some mark [] = let same : (mark == mark) ≡ true = grind arith in rw same refl
ending_some mark (b ∷ []) = let same : (mark == mark) ≡ true = grind arith in rw same refl
ending_some mark (b ∷ c ∷ bs) = rw (ending_some mark (c ∷ bs)) refl

front_takes : (b : ℕ) (o : Option (List ℕ)) (v : List ℕ) → in_front b o ≡ Some v → (w : List ℕ) × (o ≡ Some w) × (b ∷ w ≡ v)
front_takes b None v e = absurd cc
front_takes b (Some w) v e = (w, refl, some_is _ _ e)

pub ending_takes : (mark : ℕ) (w v : List ℕ) → ending mark w ≡ Some v → w ≡ v ++ mark ∷ []
ending_takes mark [] v e = absurd cc
ending_takes mark (b ∷ []) v e = split (b == mark) refl e
  where
    split : (t : Bool) → (b == mark) ≡ t → cond t (Some []) None ≡ Some v → b ∷ [] ≡ v ++ mark ∷ []
    split true t f = subst (λ (u : List ℕ). b ∷ [] ≡ u ++ mark ∷ []) (some_is _ _ f) (ap (λ c. c ∷ []) (eqb-true b mark t))
    split false t f = absurd cc
ending_takes mark (b ∷ c ∷ bs) v e =
    let p = front_takes b (ending mark (c ∷ bs)) v e in
    subst (λ (u : List ℕ). b ∷ c ∷ bs ≡ u ++ mark ∷ []) p.2 (ap (λ r. b ∷ r) (ending_takes mark (c ∷ bs) p.0 p.1))

pub ending_is : (mark b : ℕ) (w front : List ℕ) → w ≡ front ++ b ∷ [] → b ≡ mark → ending mark w ≡ Some front
ending_is mark b w front e same = ap (ending mark) (e ∙ ap (λ c. front ++ c ∷ []) same) ∙ ending_some mark front

ending_other : (mark b : ℕ) (front : List ℕ) → (b == mark) ≡ false → ending mark (front ++ b ∷ []) ≡ None
ending_other mark b [] e = rw e refl
ending_other mark b (c ∷ []) e = rw e refl
ending_other mark b (c ∷ d ∷ front) e = rw (ending_other mark b (d ∷ front) e) refl

pub ending_isnt : (mark b : ℕ) (w front : List ℕ) → w ≡ front ++ b ∷ [] → (b == mark) ≡ false → ending mark w ≡ None
ending_isnt mark b w front e other = ap (ending mark) e ∙ ending_other mark b front other
