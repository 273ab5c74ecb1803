-- The values of a list, one by one, where they lie in a line.
use Rattle.std.proofs.Common.{◌≡◌, ℕ, ◌+◌, ◌<◌, Bool, false, List, [], ◌∷◌, ◌++◌, length, Option, Some, None, refl, sym, ap, ◌∙◌, subst, append_assoc, arith}
use Rattle.std.proofs.lemmas.List.{length-append}
use Rattle.vcm_words.specs.Cutting.{joined, parts_left}
use Rattle.vcm_words.specs.WordReaders.{◌>>=◌, ending}
use Rattle.vcm_words.specs.Enclosed.{up_to}
use Rattle.vcm_words.specs.inner.Slices.{read_or_nil, values_left, AreLeft, Found}
use Rattle.vcm_words.specs.inner.Counting.{IsCount, Next}
use Rattle.vcm_words.proofs.Inverse.{some_is}
use Rattle.vcm_words.proofs.Cuts.{split_some, joined-split}

-- ---- values

pub last_is : {A : Type 0} (mark : ℕ) (f : List ℕ → Option A) (w last : List ℕ) (ws : List (List ℕ)) (x : A) → ending mark w ≡ Some last → f last ≡ Some x → up_to mark f (w ∷ ws) ≡ Some (x ∷ [], ws)
unfolding up_to
last_is mark f w last ws x e g = rw (e, g) refl

pub last_fails : {A : Type 0} (mark : ℕ) (f : List ℕ → Option A) (w last : List ℕ) (ws : List (List ℕ)) → ending mark w ≡ Some last → f last ≡ None → up_to mark f (w ∷ ws) ≡ None
unfolding up_to
last_fails mark f w last ws e g = rw (e, g) refl

pub more_fails : {A : Type 0} (mark : ℕ) (f : List ℕ → Option A) (w : List ℕ) (ws : List (List ℕ)) → ending mark w ≡ None → f w ≡ None → up_to mark f (w ∷ ws) ≡ None
unfolding up_to
more_fails mark f w ws e g = rw (e, g) refl

-- values in front of what is read
abbrev pub with_front : {A : Type 0} → List A → Option (List A × List (List ℕ)) → Option (List A × List (List ℕ))
with_front front None = None
with_front front (Some x) = Some (front ++ x.0, x.1)

pub more_is : {A : Type 0} (mark : ℕ) (f : List ℕ → Option A) (w : List ℕ) (ws : List (List ℕ)) (x : A) → ending mark w ≡ None → f w ≡ Some x
    → up_to mark f (w ∷ ws) ≡ with_front (x ∷ []) (up_to mark f ws)
unfolding up_to
more_is {A} mark f w ws x e g = rw (e, g) (by (up_to mark f ws))
  where
    by : (o : Option (List A × List (List ℕ))) → (o >>= λ xs. Some (x ∷ xs.0, xs.1)) ≡ with_front (x ∷ []) o
    by None = refl
    by (Some y) = refl

with_front-append : {A : Type 0} (xs ys : List A) (o : Option (List A × List (List ℕ))) → with_front xs (with_front ys o) ≡ with_front (xs ++ ys) o
with_front-append xs ys None = refl
with_front-append xs ys (Some x) = ap (λ l. Some (l, x.1)) (sym (append_assoc xs ys x.0))

-- values that were read, up to here
pub record IsRead {A : Type 0} (mark : ℕ) (f : List ℕ → Option A) (most : ℕ) (words rest : List (List ℕ)) (count : ℕ) : Type 0 where
  pub front : List A
  pub same : up_to mark f words ≡ with_front front (up_to mark f rest)
  pub counted : IsCount most count (length front)

-- one more value
pub one_read : {A : Type 0} (mark : ℕ) (f : List ℕ → Option A) (most : ℕ) (words rest : List (List ℕ)) (count next : ℕ) (w : List ℕ) (more : List (List ℕ))
    (x : A) → IsRead mark f most words rest count → rest ≡ w ∷ more → ending mark w ≡ None → f w ≡ Some x → Next most count next
    → IsRead mark f most words more next
one_read mark f most words rest count next w more x r e g h n = record {
  front = r.front ++ x ∷ [];
  same = r.same ∙ ap (λ ws. with_front r.front (up_to mark f ws)) e ∙ ap (with_front r.front) (more_is mark f w more x g h) ∙ with_front-append r.front (x ∷ []) (up_to mark f more);
  counted = let len : length (r.front ++ x ∷ []) ≡ length r.front + 1 = length-append r.front (x ∷ []) in subst (IsCount most next) (sym len) (n (length r.front) r.counted);
}

pub read_fails : {A : Type 0} (mark : ℕ) (f : List ℕ → Option A) (most : ℕ) (words rest : List (List ℕ)) (count : ℕ) → IsRead mark f most words rest count
    → up_to mark f rest ≡ None → up_to mark f words ≡ None
read_fails mark f most words rest count r e = r.same ∙ ap (with_front r.front) e

pub nothing_left : {A : Type 0} (mark : ℕ) (f : List ℕ → Option A) (rest : List (List ℕ)) → rest ≡ [] → up_to mark f rest ≡ None
unfolding up_to
nothing_left mark f rest e = rw e refl

pub last_read : {A : Type 0} (mark : ℕ) (f : List ℕ → Option A) (most : ℕ) (words rest : List (List ℕ)) (count next : ℕ) (w last : List ℕ)
    (more : List (List ℕ)) (x : A) → IsRead mark f most words rest count → rest ≡ w ∷ more → ending mark w ≡ Some last → f last ≡ Some x → Next most count next
    → Found mark f most words next more
last_read mark f most words rest count next w last more x r e g h n =
    let len : length (r.front ++ x ∷ []) ≡ length r.front + 1 = length-append r.front (x ∷ []) in (
      r.front ++ x ∷ [],
      r.same ∙ ap (λ ws. with_front r.front (up_to mark f ws)) e
          ∙ ap (with_front r.front) (last_is mark f w last more x g h),
      subst (IsCount most next) (sym len) (n (length r.front) r.counted),
      omega (arith, len),
    )

-- ---- a slice

pub some_value : {A : Type 0} (mark : ℕ) (f : List ℕ → Option A) (ws : List (List ℕ)) → AreLeft mark f false ws → ws ≡ [] → ⊥
unfolding up_to
some_value mark f [] h e = cc
some_value mark f (w ∷ ws) h e = cc

pub last_some : {A : Type 0} (mark : ℕ) (f : List ℕ → Option A) (ws : List (List ℕ)) (w last : List ℕ) (more : List (List ℕ)) → AreLeft mark f false ws
    → ws ≡ w ∷ more → ending mark w ≡ Some last → f last ≡ None → ⊥
last_some mark f ws w last more h e g i = let none = last_fails mark f w last more g i in let both = sym h.1 ∙ ap (up_to mark f) e ∙ none in cc

pub more_some : {A : Type 0} (mark : ℕ) (f : List ℕ → Option A) (ws : List (List ℕ)) (w : List ℕ) (more : List (List ℕ)) → AreLeft mark f false ws
    → ws ≡ w ∷ more → ending mark w ≡ None → f w ≡ None → ⊥
more_some mark f ws w more h e g i = let none = more_fails mark f w more g i in let both = sym h.1 ∙ ap (up_to mark f) e ∙ none in cc

pub last_value : {A : Type 0} (mark : ℕ) (f : List ℕ → Option A) (ws : List (List ℕ)) (w last : List ℕ) (more : List (List ℕ)) (x : A) → ws ≡ w ∷ more
    → ending mark w ≡ Some last → f last ≡ Some x → values_left mark f false ws ≡ x ∷ []
last_value mark f ws w last more x e g h = ap (λ l. read_or_nil (up_to mark f l)) e ∙ ap read_or_nil (last_is mark f w last more x g h)

with_some : {A : Type 0} (x : A) (o : Option (List A × List (List ℕ))) (y : List A × List (List ℕ)) → with_front (x ∷ []) o ≡ Some y → (z : List A × List (List ℕ)) × (o ≡ Some z)
with_some x None y e = absurd cc
with_some x (Some z) y e = (z, refl)

pub more_left : {A : Type 0} (mark : ℕ) (f : List ℕ → Option A) (ws : List (List ℕ)) (w : List ℕ) (more : List (List ℕ)) (x : A) → AreLeft mark f false ws
    → ws ≡ w ∷ more → ending mark w ≡ None → f w ≡ Some x → AreLeft mark f false more
more_left mark f ws w more x h e g i =
    with_some x (up_to mark f more) h.0 (sym (more_is mark f w more x g i) ∙ ap (up_to mark f) (sym e) ∙ h.1)

front_nil : {A : Type 0} (x : A) (o : Option (List A × List (List ℕ))) (y : List A × List (List ℕ)) → o ≡ Some y → read_or_nil (with_front (x ∷ []) o) ≡ x ∷ read_or_nil o
front_nil x (Some z) y e = refl
front_nil x None y e = absurd cc

pub more_values : {A : Type 0} (mark : ℕ) (f : List ℕ → Option A) (ws : List (List ℕ)) (w : List ℕ) (more : List (List ℕ)) (x : A) → AreLeft mark f false ws
    → ws ≡ w ∷ more → ending mark w ≡ None → f w ≡ Some x → values_left mark f false ws ≡ x ∷ values_left mark f false more
more_values mark f ws w more x h e g i =
    let l = more_left mark f ws w more x h e g i in
    ap (λ k. read_or_nil (up_to mark f k)) e ∙ ap read_or_nil (more_is mark f w more x g i) ∙ front_nil x (up_to mark f more) l.0 l.1

pub left_false : {A : Type 0} (mark : ℕ) (f : List ℕ → Option A) (passed : Bool) (ws : List (List ℕ)) → passed ≡ false → AreLeft mark f passed ws → AreLeft mark f false ws
left_false mark f passed ws e h = subst (λ (p : Bool). AreLeft mark f p ws) e h

pub view_false : {A : Type 0} (mark : ℕ) (f : List ℕ → Option A) (passed : Bool) (ws : List (List ℕ)) → passed ≡ false → values_left mark f passed ws ≡ values_left mark f false ws
view_false mark f passed ws e = ap (λ (p : Bool). values_left mark f p ws) e

-- all that is left of a line
pub left_some : (o : Option (List ℕ)) (bs : List ℕ) (ws : List (List ℕ)) → parts_left 32 o ≡ ws → o ≡ Some bs → (joined 32 ws ≡ bs) × (0 < length ws)
left_some None bs ws e f = absurd cc
left_some (Some cs) bs ws e f =
    let s = split_some 32 cs in
    let same : cs ≡ bs = some_is _ _ f in
    (ap (joined 32) (sym e) ∙ joined-split 32 cs ∙ same, subst (λ (l : List (List ℕ)). 0 < length l) (sym s.2 ∙ e) (omega arith))
