-- Lists between two marks: what is read is spelled so, and what is spelled so is read again.
use Rattle.std.proofs.Common.{◌≡◌, ℕ, ◌<◌, ◌==◌, true, false, List, [], ◌∷◌, ◌++◌, length, Option, Some, None, refl, sym, ap, ◌∙◌, subst, arith}
use Rattle.std.specs.List.{AllByRecursion}
use Rattle.vcm_words.specs.inner.Marks.{Without, IsWord}
use Rattle.vcm_words.specs.WordReaders.{◌>>=◌, ending}
use Rattle.vcm_words.specs.Enclosed.{closed, opened, last_or_more, up_to, opening, unopened, between}
use Rattle.vcm_words.proofs.Inverse.{Means, Reads, bind_some, some_is, all_append}
use Rattle.vcm_words.proofs.WordLaws.{marked_takes, ending_none, ending_some, ending_takes}

-- ---- values up to the mark

closed_more : {A : Type 0} (mark : ℕ) (s : A → List ℕ) (x : A) (xs : List A) → 0 < length xs → closed mark s (x ∷ xs) ≡ s x ∷ closed mark s xs
closed_more mark s x [] h = absurd (omega arith)
closed_more mark s x (y ∷ xs) h = refl

AreValues : {A : Type 0} → ℕ → (A → List ℕ) → (A → Type 0) → List (List ℕ) → List A × List (List ℕ) → Type 0
AreValues mark s P ws x = (ws ≡ closed mark s x.0 ++ x.1) × ((0 < length x.0) × AllByRecursion P x.0)

values_take : {A : Type 0} {f : List ℕ → Option A} {s : A → List ℕ} {P : A → Type 0} (mark : ℕ) → Means f s P
    → (ws : List (List ℕ)) (x : List A × List (List ℕ)) → up_to mark f ws ≡ Some x → AreValues mark s P ws x
unfolding up_to AreValues
values_take mark m [] x e = absurd cc
values_take {A} {f} {s} {P} mark m (w ∷ ws) x e = split (λ y g. values_take mark m ws y g) (ending mark w) refl e
  where
    split : ((y : List A × List (List ℕ)) → up_to mark f ws ≡ Some y → AreValues mark s P ws y) → (o : Option (List ℕ)) → ending mark w ≡ o
        → last_or_more f w ws o (up_to mark f ws) ≡ Some x → AreValues mark s P (w ∷ ws) x
    split more (Some v) c g =
        let p = bind_some (f v) (λ i. Some (i ∷ [], ws)) x g in
        let t = m.takes v p.0 p.1 in
        let made : List A × List (List ℕ) = (p.0 ∷ [], ws) in
        let word : w ≡ s p.0 ++ mark ∷ [] = ending_takes mark w v c ∙ ap (λ u. u ++ mark ∷ []) t.0 in
        subst (λ (y : List A × List (List ℕ)). AreValues mark s P (w ∷ ws) y) (some_is made x p.2) (ap (λ u. u ∷ ws) word, (omega arith, (t.1, tt)))
    split more None c g =
        let p = bind_some (f w) (λ i. up_to mark f ws >>= λ is. Some (i ∷ is.0, is.1)) x g in
        let q = bind_some (up_to mark f ws) (λ is. Some (p.0 ∷ is.0, is.1)) x p.2 in
        let t = m.takes w p.0 p.1 in
        let n = more q.0 q.1 in
        let made : List A × List (List ℕ) = (p.0 ∷ q.0.0, q.0.1) in
        let words : w ∷ ws ≡ closed mark s (p.0 ∷ q.0.0) ++ q.0.1 = ap (λ u. u ∷ ws) t.0 ∙ ap (λ r. s p.0 ∷ r) n.0 ∙ ap (λ r. r ++ q.0.1) (sym (closed_more mark s p.0 q.0.0 n.1.0)) in
        subst (λ (y : List A × List (List ℕ)). AreValues mark s P (w ∷ ws) y) (some_is made x q.2) (words, (omega arith, (t.1, n.1.1)))

values_again : {A : Type 0} {f : List ℕ → Option A} {s : A → List ℕ} {P : A → Type 0} (mark : ℕ) → Means f s P → ((x : A) → P x → Without mark (s x))
    → (x : A) (xs : List A) (rest : List (List ℕ)) → AllByRecursion P (x ∷ xs) → up_to mark f (closed mark s (x ∷ xs) ++ rest) ≡ Some (x ∷ xs, rest)
unfolding up_to
values_again {A} {f} {s} {P} mark m apart x [] rest h = rw (ending_some mark (s x), m.again x h.0) refl
values_again {A} {f} {s} {P} mark m apart x (y ∷ xs) rest h = rw (ending_none mark (s x) (apart x h.0), m.again x h.0, values_again mark m apart y xs rest h.1) refl

end_word : (mark : ℕ) (w : List ℕ) → (mark == 32) ≡ false → (mark == 10) ≡ false → IsWord w → IsWord (w ++ mark ∷ [])
end_word mark w b l h = (all_append _ w (mark ∷ []) h.0 (b, tt), all_append _ w (mark ∷ []) h.1 (l, tt))

closed_are_words : {A : Type 0} {f : List ℕ → Option A} {s : A → List ℕ} {P : A → Type 0} (mark : ℕ) → (mark == 32) ≡ false → (mark == 10) ≡ false → Means f s P
    → (x : A) (xs : List A) → AllByRecursion P (x ∷ xs) → AllByRecursion IsWord (closed mark s (x ∷ xs))
closed_are_words {A} {f} {s} {P} mark b l m x [] h = (end_word mark (s x) b l (m.words x h.0), tt)
closed_are_words mark b l m x (y ∷ xs) h = (m.words x h.0, closed_are_words mark b l m y xs h.1)

-- ---- between the marks

-- at least one value, and all in range
abbrev pub SomeOf : {A : Type 0} → (A → Type 0) → List A → Type 0
SomeOf P xs = (0 < length xs) × AllByRecursion P xs

opened_is : {A : Type 0} (left right : ℕ) (s : A → List ℕ) (v : List ℕ) (ws rest : List (List ℕ)) (xs : List A) → 0 < length xs
    → v ∷ ws ≡ closed right s xs ++ rest → (left ∷ v) ∷ ws ≡ opened left (closed right s xs) ++ rest
opened_is left right s v ws rest [] l e = absurd (omega arith)
opened_is left right s v ws rest (x ∷ []) l e = let a : v ≡ s x ++ right ∷ [] = cc in let b : ws ≡ rest = cc in rw (a, b) refl
opened_is left right s v ws rest (x ∷ y ∷ xs) l e = let a : v ≡ s x = cc in let b : ws ≡ closed right s (y ∷ xs) ++ rest = cc in rw (a, b) refl

between_takes : {A : Type 0} {f : List ℕ → Option A} {s : A → List ℕ} {P : A → Type 0} (left right : ℕ) → Means f s P
    → (ws : List (List ℕ)) (x : List A × List (List ℕ)) → between left right f ws ≡ Some x → (ws ≡ opened left (closed right s x.0) ++ x.1) × SomeOf P x.0
unfolding between AreValues
between_takes left right m [] x e = absurd cc
between_takes {A} {f} {s} {P} left right m (w ∷ ws) x e =
    let u = bind_some (unopened left (w ∷ ws)) (up_to right f) x e in
    let p = bind_some (opening left w) (λ v. Some (v ∷ ws)) u.0 u.1 in
    let o = marked_takes left (λ bs. Some bs) w p.0 p.1 in
    let same : o.0 ≡ p.0 = some_is _ _ o.2 in
    let words : u.0 ≡ p.0 ∷ ws = sym (some_is _ _ p.2) in
    let t = values_take {s = s} {P = P} right m (p.0 ∷ ws) x (ap (up_to right f) (sym words) ∙ u.2) in
    (ap (λ v. v ∷ ws) (o.1 ∙ ap (λ r. left ∷ r) same) ∙ opened_is left right s p.0 ws x.1 x.0 t.1.0 t.0, t.1)

unopened_again : (left : ℕ) (v : List ℕ) (ws : List (List ℕ)) → unopened left ((left ∷ v) ∷ ws) ≡ Some (v ∷ ws)
unopened_again left v ws = let same : (left == left) ≡ true = grind arith in rw same refl

between_again : {A : Type 0} {f : List ℕ → Option A} {s : A → List ℕ} {P : A → Type 0} (left right : ℕ) → Means f s P → ((x : A) → P x → Without right (s x))
    → (xs : List A) (rest : List (List ℕ)) → SomeOf P xs → between left right f (opened left (closed right s xs) ++ rest) ≡ Some (xs, rest)
unfolding between
between_again left right m apart [] rest h = absurd (omega (arith, h.0))
between_again {A} {f} {s} {P} left right m apart (x ∷ []) rest h = ap (λ o. o >>= up_to right f) (unopened_again left (s x ++ right ∷ []) rest) ∙ values_again right m apart x [] rest h.1
between_again {A} {f} {s} {P} left right m apart (x ∷ y ∷ xs) rest h =
    ap (λ o. o >>= up_to right f) (unopened_again left (s x) (closed right s (y ∷ xs) ++ rest)) ∙ values_again right m apart x (y ∷ xs) rest h.1

open_word : (mark : ℕ) (w : List ℕ) → (mark == 32) ≡ false → (mark == 10) ≡ false → IsWord w → IsWord (mark ∷ w)
open_word mark w b l h = ((b, h.0), (l, h.1))

-- neither mark is a blank or the end of a line
abbrev pub AreMarks : ℕ → ℕ → Type 0
AreMarks left right = (((left == 32) ≡ false) × ((left == 10) ≡ false)) × (((right == 32) ≡ false) × ((right == 10) ≡ false))

between_words : {A : Type 0} {f : List ℕ → Option A} {s : A → List ℕ} {P : A → Type 0} (left right : ℕ) → AreMarks left right → Means f s P → (xs : List A)
    → SomeOf P xs → AllByRecursion IsWord (opened left (closed right s xs))
between_words left right k m [] h = absurd (omega (arith, h.0))
between_words {A} {f} {s} {P} left right k m (x ∷ []) h = let c = closed_are_words right k.1.0 k.1.1 m x [] h.1 in (open_word left (s x ++ right ∷ []) k.0.0 k.0.1 c.0, c.1)
between_words {A} {f} {s} {P} left right k m (x ∷ y ∷ xs) h = let c = closed_are_words right k.1.0 k.1.1 m x (y ∷ xs) h.1 in (open_word left (s x) k.0.0 k.0.1 c.0, c.1)

pub reads_between : {A : Type 0} {f : List ℕ → Option A} {s : A → List ℕ} {P : A → Type 0} (left right : ℕ) → AreMarks left right → Means f s P
    → ((x : A) → P x → Without right (s x)) → Reads (between left right f) (λ xs. opened left (closed right s xs)) (SomeOf P)
reads_between left right k m apart = record { takes = λ ws x bare e. between_takes left right m ws x e; again = between_again left right m apart; words = between_words left right k m }
