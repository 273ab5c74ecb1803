-- A reader of words and a spelling that undo each other, and how larger ones are made of smaller ones.
use Rattle.std.proofs.Common.{◌≡◌, ℕ, Bool, true, false, List, [], ◌∷◌, ◌++◌, Option, Some, None, refl, sym, ap, ◌∙◌, subst, append_assoc}
use Rattle.std.specs.List.{AllByRecursion}
use Rattle.vcm_words.specs.inner.Marks.{Without, IsWord}
use Rattle.vcm_words.specs.Numbers.{only_if}
use Rattle.vcm_words.specs.WordReaders.{◌>>=◌, Reader, one, both, via, after, tested}

abbrev pub found : {A : Type 0} → A → Option A
found x = Some x

pub some_is : {A : Type 0} (x y : A) → found x ≡ found y → x ≡ y
some_is x y e = cc

-- the value of a step that did not fail
pub bind_some : {A B : Type 0} (o : Option A) (f : A → Option B) (y : B) → (o >>= f) ≡ Some y → (x : A) × (o ≡ Some x) × (f x ≡ Some y)
bind_some (Some x) f y e = (x, refl, e)
bind_some None f y e = absurd cc

pub only_met : {A : Type 0} (b : Bool) (x y : A) → only_if b x ≡ Some y → (b ≡ true) × (x ≡ y)
only_met true x y e = (refl, cc)
only_met false x y e = absurd cc

-- ---- single words

-- a word's meaning and the meaning's word: what is read is spelled so, and what is spelled so is read again
pub record Means {A : Type 0} (f : List ℕ → Option A) (s : A → List ℕ) (P : A → Type 0) : Type 0 where
  pub takes : (w : List ℕ) (x : A) → f w ≡ Some x → (w ≡ s x) × P x
  pub again : (x : A) → P x → f (s x) ≡ Some x
  pub words : (x : A) → P x → IsWord (s x)

-- ---- lists of words

-- no word has a blank
abbrev pub Bare : List (List ℕ) → Type 0
Bare ws = AllByRecursion (Without 32) ws

pub record Reads {A : Type 0} (at : Reader A) (spell : A → List (List ℕ)) (P : A → Type 0) : Type 0 where
  pub takes : (ws : List (List ℕ)) (x : A × List (List ℕ)) → Bare ws → at ws ≡ Some x → (ws ≡ spell x.0 ++ x.1) × P x.0
  pub again : (x : A) (rest : List (List ℕ)) → P x → at (spell x ++ rest) ≡ Some (x, rest)
  pub words : (x : A) → P x → AllByRecursion IsWord (spell x)

-- so with what is as much as P
pub reads_as : {A : Type 0} {a : Reader A} {s : A → List (List ℕ)} {P : A → Type 0} → Reads a s P → (Q : A → Type 0) → ((x : A) → P x → Q x) → ((x : A) → Q x → P x) → Reads a s Q
reads_as r Q fitted back = record {
  takes = λ ws x bare e. (let t = r.takes ws x bare e in (t.0, fitted x.0 t.1));
  again = λ x rest h. r.again x rest (back x h);
  words = λ x h. r.words x (back x h);
}

-- the same of a value that takes all that is left
pub record Ends {A : Type 0} (at : Reader A) (spell : A → List (List ℕ)) (P : A → Type 0) : Type 0 where
  pub takes : (ws : List (List ℕ)) (x : A × List (List ℕ)) → Bare ws → at ws ≡ Some x → (ws ≡ spell x.0 ++ x.1) × P x.0
  pub again : (x : A) → P x → at (spell x ++ []) ≡ Some (x, [])
  pub words : (x : A) → P x → AllByRecursion IsWord (spell x)

pub ends : {A : Type 0} {a : Reader A} {s : A → List (List ℕ)} {P : A → Type 0} → Reads a s P → Ends a s P
ends r = record { takes = r.takes; again = λ x h. r.again x [] h; words = r.words }

pub all_append : {X : Type 0} (P : X → Type 0) (xs ys : List X) → AllByRecursion P xs → AllByRecursion P ys → AllByRecursion P (xs ++ ys)
all_append P [] ys h g = g
all_append P (x ∷ xs) ys h g = (h.0, all_append P xs ys h.1 g)

pub all_after : {X : Type 0} (P : X → Type 0) (xs ys : List X) → AllByRecursion P (xs ++ ys) → AllByRecursion P ys
all_after P [] ys h = h
all_after P (x ∷ xs) ys h = all_after P xs ys h.1

-- what is left of bare words is bare
pub bare_rest : (ws front rest : List (List ℕ)) → Bare ws → ws ≡ front ++ rest → Bare rest
bare_rest ws front rest h e = all_after (Without 32) front rest (subst (λ l. Bare l) e h)

pub reads_one : {A : Type 0} {f : List ℕ → Option A} {s : A → List ℕ} {P : A → Type 0} → Means f s P → Reads (one f) (λ x. s x ∷ []) P
reads_one {A} {f} {s} {P} m = record {
  takes = λ ws x bare e. taken ws x e;
  again = λ x rest h. rw (m.again x h) refl;
  words = λ x h. (m.words x h, tt);
}
  where
    taken : (ws : List (List ℕ)) (x : A × List (List ℕ)) → one f ws ≡ Some x → (ws ≡ s x.0 ∷ x.1) × P x.0
    taken [] x e = absurd cc
    taken (w ∷ ws) x e =
        let p = bind_some (f w) (λ u. Some (u, ws)) x e in
        let t = m.takes w p.0 p.1 in
        let made : A × List (List ℕ) = (p.0, ws) in
        subst (λ (y : A × List (List ℕ)). (w ∷ ws ≡ s y.0 ∷ y.1) × P y.0) (some_is made x p.2) (ap (λ v. v ∷ ws) t.0, t.1)

-- two values, of which the second is known by what it takes
both_takes : {A B : Type 0} {a : Reader A} {b : Reader B} {sa : A → List (List ℕ)} {P : A → Type 0} → Reads a sa P → (sb : B → List (List ℕ)) (Q : B → Type 0)
    → ((ws : List (List ℕ)) (x : B × List (List ℕ)) → Bare ws → b ws ≡ Some x → (ws ≡ sb x.0 ++ x.1) × Q x.0)
    → (ws : List (List ℕ)) (x : (A × B) × List (List ℕ)) → Bare ws → both a b ws ≡ Some x → (ws ≡ (sa x.0.0 ++ sb x.0.1) ++ x.1) × (P x.0.0 × Q x.0.1)
both_takes {A} {B} {a} {b} {sa} {P} ra sb Q tb ws x bare e =
    let p = bind_some (a ws) (λ u. b u.1 >>= λ v. Some ((u.0, v.0), v.1)) x e in
    let q = bind_some (b p.0.1) (λ v. Some ((p.0.0, v.0), v.1)) x p.2 in
    let s = ra.takes ws p.0 bare p.1 in
    let t = tb p.0.1 q.0 (bare_rest ws (sa p.0.0) p.0.1 bare s.0) q.1 in
    let made : (A × B) × List (List ℕ) = ((p.0.0, q.0.0), q.0.1) in
    let whole : ws ≡ (sa p.0.0 ++ sb q.0.0) ++ q.0.1 = s.0 ∙ ap (λ r. sa p.0.0 ++ r) t.0 ∙ sym (append_assoc (sa p.0.0) (sb q.0.0) q.0.1) in
    subst (λ (y : (A × B) × List (List ℕ)). (ws ≡ (sa y.0.0 ++ sb y.0.1) ++ y.1) × (P y.0.0 × Q y.0.1)) (some_is made x q.2) (whole, (s.1, t.1))

pub reads_both : {A B : Type 0} {a : Reader A} {b : Reader B} {sa : A → List (List ℕ)} {sb : B → List (List ℕ)} {P : A → Type 0} {Q : B → Type 0} → Reads a sa P
    → Reads b sb Q → Reads (both a b) (λ p. sa p.0 ++ sb p.1) (λ p. P p.0 × Q p.1)
reads_both {A} {B} {a} {b} {sa} {sb} {P} {Q} ra rb = record {
  takes = both_takes ra sb Q rb.takes;
  again = λ x rest h. ap (both a b) (append_assoc (sa x.0) (sb x.1) rest) ∙ rw (ra.again x.0 (sb x.1 ++ rest) h.0, rb.again x.1 rest h.1) refl;
  words = λ x h. all_append IsWord (sa x.0) (sb x.1) (ra.words x.0 h.0) (rb.words x.1 h.1);
}

pub ends_both : {A B : Type 0} {a : Reader A} {b : Reader B} {sa : A → List (List ℕ)} {sb : B → List (List ℕ)} {P : A → Type 0} {Q : B → Type 0} → Reads a sa P
    → Ends b sb Q → Ends (both a b) (λ p. sa p.0 ++ sb p.1) (λ p. P p.0 × Q p.1)
ends_both {A} {B} {a} {b} {sa} {sb} {P} {Q} ra rb = record {
  takes = both_takes ra sb Q rb.takes;
  again = λ x h. ap (both a b) (append_assoc (sa x.0) (sb x.1) []) ∙ rw (ra.again x.0 (sb x.1 ++ []) h.0, rb.again x.1 h.1) refl;
  words = λ x h. all_append IsWord (sa x.0) (sb x.1) (ra.words x.0 h.0) (rb.words x.1 h.1);
}

-- what is read through a function
pub via_takes : {A B : Type 0} {a : Reader A} {s : A → List (List ℕ)} {P : A → Type 0} → Ends a s P → (f : A → B) (spell : B → List (List ℕ)) (Q : B → Type 0)
    → ((x : A) → P x → spell (f x) ≡ s x) → ((x : A) → P x → Q (f x))
    → (ws : List (List ℕ)) (y : B × List (List ℕ)) → Bare ws → via f a ws ≡ Some y → (ws ≡ spell y.0 ++ y.1) × Q y.0
via_takes {A} {B} {a} {s} {P} r f spell Q spelled fitted ws y bare e =
    let p = bind_some (a ws) (λ u. Some (f u.0, u.1)) y e in
    let t = r.takes ws p.0 bare p.1 in
    let whole : ws ≡ spell (f p.0.0) ++ p.0.1 = t.0 ∙ ap (λ l. l ++ p.0.1) (sym (spelled p.0.0 t.1)) in
    let made : B × List (List ℕ) = (f p.0.0, p.0.1) in
    subst (λ (z : B × List (List ℕ)). (ws ≡ spell z.0 ++ z.1) × Q z.0) (some_is made y p.2) (whole, fitted p.0.0 t.1)

pub via_again : {A B : Type 0} {a : Reader A} {s : A → List (List ℕ)} {P : A → Type 0} → Ends a s P → (f : A → B) (x : A) → P x → via f a (s x ++ []) ≡ Some (f x, [])
via_again r f x h = rw (r.again x h) refl

pub ends_via : {A B : Type 0} {a : Reader A} {s : A → List (List ℕ)} {P : A → Type 0} → Ends a s P → (f : A → B) (g : B → A) (spell : B → List (List ℕ)) (Q : B → Type 0)
    → ((x : A) → P x → spell (f x) ≡ s x) → ((x : A) → P x → Q (f x))
    → ((y : B) → Q y → (f (g y) ≡ y) × (spell y ≡ s (g y)) × P (g y))
    → Ends (via f a) spell Q
ends_via {A} {B} {a} {s} {P} r f g spell Q spelled fitted back = record {
  takes = λ ws y bare e. via_takes r f spell Q spelled fitted ws y bare e;
  again = λ y h.
      let b = back y h in
      rw b.1 (via_again r f (g y) b.2 ∙ ap (λ (z : B). Some (z, [])) b.0);
  words = λ y h. let b = back y h in subst (λ (l : List (List ℕ)). AllByRecursion IsWord l) (sym b.1) (r.words (g y) b.2);
}

pub reads_tested : {A : Type 0} {a : Reader A} {s : A → List (List ℕ)} {P : A → Type 0} → Reads a s P → (test : A → Bool) (Q : A → Type 0)
    → ((x : A) → P x → test x ≡ true → Q x) → ((x : A) → Q x → P x × (test x ≡ true)) → Reads (tested test a) s Q
reads_tested {A} {a} {s} {P} r test Q fitted back = record {
  takes = λ ws y bare e.
      let p = bind_some (a ws) (λ x. only_if (test x.0) x) y e in
      let g = only_met (test p.0.0) p.0 y p.2 in
      let t = r.takes ws p.0 bare p.1 in
      subst (λ (z : A × List (List ℕ)). (ws ≡ s z.0 ++ z.1) × Q z.0) g.1 (t.0, fitted p.0.0 t.1 g.0);
  again = λ x rest h. let b = back x h in rw (r.again x rest b.0, b.1) refl;
  words = λ x h. r.words x (back x h).0;
}

-- what follows a tag, which the value tells
pub ends_tag : {A B : Type 0} {a : Reader A} {f : A → Reader B} {sa : A → List (List ℕ)} {sb : B → List (List ℕ)} {P : A → Type 0} {Q : B → Type 0}
    → Reads a sa P → (tag : B → A) → ((n : A) → Ends (f n) sb (λ x. (tag x ≡ n) × Q x))
    → Ends (after a f) (λ x. sa (tag x) ++ sb x) (λ x. P (tag x) × Q x)
ends_tag {A} {B} {a} {f} {sa} {sb} {P} {Q} ra tag rb = record {
  takes = λ ws y bare e.
      let p = bind_some (a ws) (λ x. f x.0 x.1) y e in
      let s = ra.takes ws p.0 bare p.1 in
      let t = (rb p.0.0).takes p.0.1 y (bare_rest ws (sa p.0.0) p.0.1 bare s.0) p.2 in
      let whole : ws ≡ (sa p.0.0 ++ sb y.0) ++ y.1 = s.0 ∙ ap (λ r. sa p.0.0 ++ r) t.0 ∙ sym (append_assoc (sa p.0.0) (sb y.0) y.1) in
      (subst (λ (n : A). ws ≡ (sa n ++ sb y.0) ++ y.1) (sym t.1.0) whole, (subst P (sym t.1.0) s.1, t.1.1));
  again = λ x h. ap (after a f) (append_assoc (sa (tag x)) (sb x) []) ∙ rw (ra.again (tag x) (sb x ++ []) h.0) ((rb (tag x)).again x (refl, h.1));
  words = λ x h. all_append IsWord (sa (tag x)) (sb x) (ra.words (tag x) h.0) ((rb (tag x)).words x (refl, h.1));
}
