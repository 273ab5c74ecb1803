-- A reader and a spelling that undo each other, and how larger ones are made of smaller ones.
use Rattle.std.proofs.Common.{◌≡◌, ℕ, zero, suc, ◌+◌, ◌<◌, Bool, true, false, cond, List, [], ◌∷◌, ◌++◌, length, get_or, take, drop, Result, Ok, Err, refl, sym}
use Rattle.std.proofs.Common.{ap, subst, ◌∙◌, append_assoc, arith, inl, inr}
use Rattle.std.specs.List.{flat_map, AllByRecursion}
use Rattle.std.proofs.lemmas.Bool.{cases_lt}
use Rattle.std.proofs.lemmas.List.{length-take, get_or-drop, get_or-take, get_or_past}
use Rattle.std.proofs.lemmas.List.Concat.{flat_map-cons}
use Rattle.vcm_fields.specs.declared.fault.ImageFault.{ImageFault}
use Rattle.vcm_spec.specs.Results.{◌>>=◌}
use Rattle.vcm_fields.specs.Readers.{Reader, both, via, tested, after, times}

abbrev pub IsBytes : List ℕ → Type 0
IsBytes bytes = (i : ℕ) → get_or bytes i 0 < 256

pub IsBytes-drop : (n : ℕ) (bytes : List ℕ) → IsBytes bytes → IsBytes (drop n bytes)
IsBytes-drop n bytes h i = rw get_or-drop (h (n + i))

pub IsBytes-take : (n : ℕ) (bytes : List ℕ) → IsBytes bytes → IsBytes (take n bytes)
IsBytes-take n bytes h i =
    elim (cases_lt i n) [
      | inl lt ↦ rw (get_or-take n bytes i 0 lt) (h i)
      | inr le ↦ rw (get_or_past (take n bytes) i 0 (omega (arith, length-take n bytes))) (omega arith)
    ]

-- the value of a step that did not fail
pub bind_ok : {A B : Type 0} (r : Result A ImageFault) (f : A → Result B ImageFault) (y : B) → (r >>= f) ≡ Ok y → (x : A) × (r ≡ Ok x) × (f x ≡ Ok y)
bind_ok (Ok x) f y e = (x, refl, e)
bind_ok (Err d) f y e = absurd cc

-- a test that did not fail
pub guard_short : {A : Type 0} (b : Bool) (d : ImageFault) (x y : A) → cond b (Err d) (Ok x) ≡ Ok y → (b ≡ false) × (x ≡ y)
guard_short true d x y e = absurd cc
guard_short false d x y e = (refl, cc)

pub guard_met : {A : Type 0} (b : Bool) (d : ImageFault) (x y : A) → cond b (Ok x) (Err d) ≡ Ok y → (b ≡ true) × (x ≡ y)
guard_met true d x y e = (refl, cc)
guard_met false d x y e = absurd cc

abbrev done : {A : Type 0} → A → Result A ImageFault
done x = Ok x

pub ok_is : {A : Type 0} (x y : A) → done x ≡ done y → x ≡ y
ok_is x y e = cc

-- what a reader took from the front
pub record Takes (bytes text rest : List ℕ) : Type 0 where
  pub parts : bytes ≡ text ++ rest
  pub rest_fits : IsBytes rest

Takes-then : (a x b y c : List ℕ) → Takes a x b → Takes b y c → Takes a (x ++ y) c
Takes-then a x b y c p q = record { parts = p.parts ∙ ap (λ (t : List ℕ). x ++ t) q.parts ∙ sym (append_assoc x y c); rest_fits = q.rest_fits }

-- what was read is spelled so, and what is spelled so is read again
pub record Reads {A : Type 0} (at : Reader A) (spell : A → List ℕ) (P : A → Type 0) : Type 0 where
  pub takes : (bytes : List ℕ) (x : A × List ℕ) → IsBytes bytes → at bytes ≡ Ok x → Takes bytes (spell x.0) x.1 × P x.0
  pub again : (x : A) (rest : List ℕ) → P x → at (spell x ++ rest) ≡ Ok (x, rest)

pub reads_both : {A B : Type 0} {a : Reader A} {b : Reader B} {sa : A → List ℕ} {sb : B → List ℕ} {P : A → Type 0} {Q : B → Type 0} → Reads a sa P
    → Reads b sb Q → Reads (both a b) (λ p. sa p.0 ++ sb p.1) (λ p. P p.0 × Q p.1)
reads_both {A} {B} {a} {b} {sa} {sb} {P} {Q} ra rb = record {
  takes = λ bytes x fits e.
      let p = bind_ok (a bytes) (λ u. b u.1 >>= λ v. Ok ((u.0, v.0), v.1)) x e in
      let q = bind_ok (b p.0.1) (λ v. Ok ((p.0.0, v.0), v.1)) x p.2 in
      let s = ra.takes bytes p.0 fits p.1 in
      let t = rb.takes p.0.1 q.0 s.0.rest_fits q.1 in
      let made : (A × B) × List ℕ = ((p.0.0, q.0.0), q.0.1) in
      subst (λ (y : (A × B) × List ℕ). Takes bytes (sa y.0.0 ++ sb y.0.1) y.1 × (P y.0.0 × Q y.0.1)) (ok_is made x q.2) (Takes-then bytes (sa p.0.0) p.0.1 (sb q.0.0) q.0.1 s.0 t.0, (s.1, t.1));
  again = λ x rest h. ap (both a b) (append_assoc (sa x.0) (sb x.1) rest) ∙ rw (ra.again x.0 (sb x.1 ++ rest) h.0, rb.again x.1 rest h.1) refl;
}

-- what is read through a function
pub via_takes : {A B : Type 0} {a : Reader A} {s : A → List ℕ} {P : A → Type 0} → Reads a s P → (f : A → B) (front : List ℕ) (spell : B → List ℕ) (Q : B → Type 0)
    → ((x : A) → P x → spell (f x) ≡ front ++ s x) → ((x : A) → P x → Q (f x))
    → (bytes : List ℕ) (y : B × List ℕ) → IsBytes bytes → via f a bytes ≡ Ok y → Takes (front ++ bytes) (spell y.0) y.1 × Q y.0
via_takes {A} {B} {a} {s} {P} r f front spell Q spelled fitted bytes y fits e =
    let p = bind_ok (a bytes) (λ u. Ok (f u.0, u.1)) y e in
    let t = r.takes bytes p.0 fits p.1 in
    let whole : front ++ bytes ≡ spell (f p.0.0) ++ p.0.1 = ap (λ (r : List ℕ). front ++ r) t.0.parts ∙ sym (append_assoc front (s p.0.0) p.0.1)
    ∙ ap (λ (r : List ℕ). r ++ p.0.1) (sym (spelled p.0.0 t.1)) in
    let made : B × List ℕ = (f p.0.0, p.0.1) in
    subst (λ (z : B × List ℕ). Takes (front ++ bytes) (spell z.0) z.1 × Q z.0) (ok_is made y p.2) (record { parts = whole; rest_fits = t.0.rest_fits }, fitted p.0.0 t.1)

pub via_again : {A B : Type 0} {a : Reader A} {s : A → List ℕ} {P : A → Type 0} → Reads a s P → (f : A → B) (x : A) (rest : List ℕ) → P x → via f a (s x ++ rest) ≡ Ok (f x, rest)
via_again r f x rest h = rw (r.again x rest h) refl

pub reads_via : {A B : Type 0} {a : Reader A} {s : A → List ℕ} {P : A → Type 0} → Reads a s P → (f : A → B) (g : B → A) (spell : B → List ℕ) (Q : B → Type 0)
    → ((x : A) → P x → spell (f x) ≡ s x) → ((x : A) → P x → Q (f x))
    → ((y : B) → Q y → (f (g y) ≡ y) × (spell y ≡ s (g y)) × P (g y))
    → Reads (via f a) spell Q
reads_via {A} {B} {a} {s} {P} r f g spell Q spelled fitted back = record {
  takes = λ bytes y fits e. via_takes r f [] spell Q spelled fitted bytes y fits e;
  again = λ y rest h.
      let b = back y h in
      rw b.1 (via_again r f (g y) rest b.2 ∙ ap (λ (z : B). Ok (z, rest)) b.0);
}

pub reads_as : {A : Type 0} {a : Reader A} {s : A → List ℕ} {P : A → Type 0} → Reads a s P → (t : A → List ℕ) (Q : A → Type 0) → ((x : A) → t x ≡ s x)
    → ((x : A) → P x → Q x) → ((x : A) → Q x → P x) → Reads a t Q
reads_as {A} {a} {s} {P} r t Q same fitted back = record {
  takes = λ bytes x fits e. let u = r.takes bytes x fits e in (subst (λ (l : List ℕ). Takes bytes l x.1) (sym (same x.0)) u.0, fitted x.0 u.1);
  again = λ x rest h. ap (λ (l : List ℕ). a (l ++ rest)) (same x) ∙ r.again x rest (back x h);
}

pub reads_tested : {A : Type 0} {a : Reader A} {s : A → List ℕ} {P : A → Type 0} → Reads a s P → (fault : ImageFault) (test : A → Bool) (Q : A → Type 0)
    → ((x : A) → P x → test x ≡ true → Q x) → ((x : A) → Q x → P x × (test x ≡ true)) → Reads (tested fault test a) s Q
reads_tested {A} {a} {s} {P} r fault test Q fitted back = record {
  takes = λ bytes y fits e.
      let p = bind_ok (a bytes) (λ x. cond (test x.0) (Ok x) (Err fault)) y e in
      let g = guard_met (test p.0.0) fault p.0 y p.2 in
      let t = r.takes bytes p.0 fits p.1 in
      subst (λ (z : A × List ℕ). Takes bytes (s z.0) z.1 × Q z.0) g.1 (t.0, fitted p.0.0 t.1 g.0);
  again = λ x rest h. let b = back x h in rw (r.again x rest b.0, b.1) refl;
}

pub reads_after : {A B : Type 0} {a : Reader A} {f : A → Reader B} {sa : A → List ℕ} {sb : B → List ℕ} {P : A → Type 0} {Q : B → Type 0} → Reads a sa P
    → (len : B → A) → ((n : A) → Reads (f n) sb (λ x. (len x ≡ n) × Q x))
    → Reads (after a f) (λ x. sa (len x) ++ sb x) (λ x. P (len x) × Q x)
reads_after {A} {B} {a} {f} {sa} {sb} {P} {Q} ra len rb = record {
  takes = λ bytes y fits e.
      let p = bind_ok (a bytes) (λ x. f x.0 x.1) y e in
      let s = ra.takes bytes p.0 fits p.1 in
      let t = (rb p.0.0).takes p.0.1 y s.0.rest_fits p.2 in
      let both = Takes-then bytes (sa p.0.0) p.0.1 (sb y.0) y.1 s.0 t.0 in
      (subst (λ (n : A). Takes bytes (sa n ++ sb y.0) y.1) (sym t.1.0) both, (subst P (sym t.1.0) s.1, t.1.1));
  again = λ x rest h. ap (after a f) (append_assoc (sa (len x)) (sb x) rest) ∙ rw (ra.again (len x) (sb x ++ rest) h.0) ((rb (len x)).again x rest (refl, h.1));
}

-- so many values, one after the other
times_takes : {A : Type 0} {a : Reader A} {s : A → List ℕ} {P : A → Type 0} → Reads a s P → (n : ℕ) (bytes : List ℕ) (x : List A × List ℕ) → IsBytes bytes
    → times a n bytes ≡ Ok x → Takes bytes (flat_map s x.0) x.1 × ((length x.0 ≡ n) × AllByRecursion P x.0)
unfolding times
times_takes {A} {a} {s} {P} r zero bytes x fits e =
    subst (λ (y : List A × List ℕ). Takes bytes (flat_map s y.0) y.1 × ((length y.0 ≡ 0) × AllByRecursion P y.0)) (ok_is ([], bytes) x e) (record { parts = refl; rest_fits = fits }, (refl, tt))
times_takes {A} {a} {s} {P} r (suc n) bytes x fits e =
    let p = bind_ok (a bytes) (λ u. times a n u.1 >>= λ v. Ok (u.0 ∷ v.0, v.1)) x e in
    let q = bind_ok (times a n p.0.1) (λ v. Ok (p.0.0 ∷ v.0, v.1)) x p.2 in
    let u = r.takes bytes p.0 fits p.1 in
    let v = times_takes r n p.0.1 q.0 u.0.rest_fits q.1 in
    let both = Takes-then bytes (s p.0.0) p.0.1 (flat_map s q.0.0) q.0.1 u.0 v.0 in
    let made : List A × List ℕ = (p.0.0 ∷ q.0.0, q.0.1) in
    subst (λ (y : List A × List ℕ). Takes bytes (flat_map s y.0) y.1 × ((length y.0 ≡ suc n) × AllByRecursion P y.0)) (ok_is made x q.2) (rw flat_map-cons both, (ap suc v.1.0, (u.1, v.1.1)))

times_again : {A : Type 0} {a : Reader A} {s : A → List ℕ} {P : A → Type 0} → Reads a s P → (xs : List A) (rest : List ℕ) → AllByRecursion P xs
    → times a (length xs) (flat_map s xs ++ rest) ≡ Ok (xs, rest)
unfolding times
times_again r [] rest fits = refl
times_again {A} {a} {s} {P} r (x ∷ xs) rest fits =
    let regrouped : flat_map s (x ∷ xs) ++ rest ≡ s x ++ (flat_map s xs ++ rest) = ap (λ (y : List ℕ). y ++ rest) (flat_map-cons s x xs) ∙ append_assoc (s x) (flat_map s xs) rest in
    ap (times a (suc (length xs))) regrouped ∙ rw (r.again x (flat_map s xs ++ rest) fits.0, times_again r xs rest fits.1) refl

pub reads_times : {A : Type 0} {a : Reader A} {s : A → List ℕ} {P : A → Type 0} → Reads a s P → (n : ℕ) → Reads (times a n) (flat_map s) (λ xs. (length xs ≡ n) × AllByRecursion P xs)
reads_times {A} {a} {s} {P} r n = record {
  takes = λ bytes x fits e. times_takes r n bytes x fits e;
  again = λ xs rest h. ap (λ (k : ℕ). times a k (flat_map s xs ++ rest)) (sym h.0) ∙ times_again r xs rest h.1;
}
