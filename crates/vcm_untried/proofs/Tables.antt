-- Tables with a value for each of so many statements.
use Rattle.std.proofs.Common.{◌≡◌, ℕ, zero, suc, ◌+◌, ◌-◌, ◌<◌, ◌≤◌, Bool, true, false, nat_eq, List, ◌∷◌, length, drop, replicate, slice_get, set, get_or, Option, Some, None, refl, sym, ap, ◌∙◌, arith}
use Rattle.std.specs.Prelude.{if◌then◌else◌}
use Rattle.std.proofs.lemmas.List.{drop_more, drop_all}
use Rattle.vcm_remarks.specs.declared.remark.NumberedRemark.{NumberedRemark}
use Rattle.vcm_untried.specs.Telling.{remark_on}
use Rattle.vcm_untried.specs.inner.Following.{ranged, tabled}

-- two numbers that aren't the same aren't equal
pub unlike : (m n : ℕ) → (m ≡ n → ⊥) → nat_eq m n ≡ false
unlike m n differ = by (nat_eq m n) refl
  where
    by : (b : Bool) → nat_eq m n ≡ b → nat_eq m n ≡ false
    by true e = absurd (differ (grind (arith, e)))
    by false e = e

module _ {A : Type 0} where
  pub length_ranged : (f : ℕ → A) (start k : ℕ) → length (ranged f start k) ≡ k
  length_ranged f start zero = refl
  length_ranged f start (suc k) = ap suc (length_ranged f (suc start) k)

  get_from : (f : ℕ → A) (start k n t : ℕ) → t ≡ start + n → n < k → slice_get (ranged f start k) n ≡ Some (f t)
  get_from f start zero n t e l = absurd (omega (arith, l))
  get_from f start (suc k) zero t e l = ap (λ m. Some (f m)) (let q : start ≡ t = omega (arith, e) in q)
  get_from f start (suc k) (suc n) t e l = get_from f (suc start) k n t (omega (arith, e)) (omega (arith, l))

  -- the value for a statement
  pub get_ranged : (f : ℕ → A) (k n : ℕ) → n < k → slice_get (ranged f 0 k) n ≡ Some (f n)
  get_ranged f k n l = get_from f 0 k n n (omega arith) l

  same_from : (f g : ℕ → A) (start k : ℕ) → ((m : ℕ) → start ≤ m → f m ≡ g m) → ranged f start k ≡ ranged g start k
  same_from f g start zero h = refl
  same_from f g start (suc k) h =
      ap (λ x. x ∷ ranged f (suc start) k) (h start (omega arith)) ∙ ap (λ l. g start ∷ l) (same_from f g (suc start) k (λ m l. h m (omega (arith, l))))

  set_from : (f g : ℕ → A) (start k n t : ℕ) (y : A) → t ≡ start + n → g t ≡ y → ((m : ℕ) → nat_eq m t ≡ false → g m ≡ f m)
      → set (ranged f start k) n y ≡ ranged g start k
  set_from f g start zero n t y e is h = refl
  set_from f g start (suc k) zero t y e is h =
      ap (λ x. x ∷ ranged f (suc start) k) (sym is ∙ ap g (let q : t ≡ start = omega (arith, e) in q))
      ∙ ap (λ l. g start ∷ l) (same_from f g (suc start) k (λ m l. sym (h m (unlike m t (λ q. omega (arith, e, l, q))))))
  set_from f g start (suc k) (suc n) t y e is h =
      ap (λ l. f start ∷ l) (set_from f g (suc start) k n t y (omega (arith, e)) is h)
      ∙ ap (λ x. x ∷ ranged g (suc start) k) (sym (h start (unlike start t (λ q. omega (arith, e, q)))))

  -- another value for one statement
  pub set_ranged : (f g : ℕ → A) (k n : ℕ) (y : A) → g n ≡ y → ((m : ℕ) → nat_eq m n ≡ false → g m ≡ f m) → set (ranged f 0 k) n y ≡ ranged g 0 k
  set_ranged f g k n y is h = set_from f g 0 k n n y (omega arith) is h

  -- the same values where the functions agree
  pub same_within : (f g : ℕ → A) (start k : ℕ) → ((m : ℕ) → m < start + k → f m ≡ g m) → ranged f start k ≡ ranged g start k
  same_within f g start zero h = refl
  same_within f g start (suc k) h =
      ap (λ x. x ∷ ranged f (suc start) k) (h start (omega arith)) ∙ ap (λ l. g start ∷ l) (same_within f g (suc start) k (λ m l. h m (omega (arith, l))))

  -- one value for all
  pub replicate_ranged : (y : A) (start k : ℕ) → replicate k y ≡ ranged (λ m. y) start k
  replicate_ranged y start zero = refl
  replicate_ranged y start (suc k) = ap (λ l. y ∷ l) (replicate_ranged y (suc start) k)

module _ (remarks : List NumberedRemark) (k : ℕ) where
  -- before the last remark
  pub tabled_none : (table : List (Option NumberedRemark)) → table ≡ replicate k None → table ≡ tabled (drop (length remarks) remarks) k
  tabled_none table e =
      e ∙ replicate_ranged None 0 k ∙ ap (λ rs. tabled rs k) (sym (drop_all (length remarks) remarks (omega arith)))

  module _ (at : ℕ) (table : List (Option NumberedRemark)) (h : table ≡ tabled (drop at remarks) k) (some : 0 < at) (most : at ≤ length remarks) (d : NumberedRemark) where
    abbrev r : NumberedRemark
    r = get_or remarks (at - 1) d

    abbrev rest : List NumberedRemark
    rest = drop at remarks

    here : drop (at - 1) remarks ≡ r ∷ rest
    here =
        drop_more remarks (at - 1) d (omega (arith, some, most)) ∙ ap (λ i. r ∷ drop i remarks) (let e : at - 1 + 1 ≡ at = omega (arith, some) in e)

    other : (m : ℕ) → nat_eq m r.number ≡ false → remark_on (r ∷ rest) m ≡ remark_on rest m
    other m e = ap (λ b. if b then Some r else remark_on rest m) (let q : nat_eq r.number m ≡ false = unlike r.number m (λ q. grind (arith, e, q)) in q)

    same_one : remark_on (r ∷ rest) r.number ≡ Some r
    same_one = ap (λ b. if b then Some r else remark_on rest r.number) (let q : nat_eq r.number r.number ≡ true = grind arith in q)

    -- the remark on one of the statements
    pub tabled_more : r.number < k → set table r.number (Some r) ≡ tabled (drop (at - 1) remarks) k
    tabled_more l =
        ap (λ t. set t r.number (Some r)) h ∙ set_ranged (remark_on rest) (remark_on (r ∷ rest)) k r.number (Some r) same_one other
        ∙ ap (λ rs. tabled rs k) (sym here)

    -- a remark on none of them
    pub tabled_past : k ≤ r.number → table ≡ tabled (drop (at - 1) remarks) k
    tabled_past l =
        h ∙ same_within (remark_on rest) (remark_on (r ∷ rest)) 0 k (λ m q. sym (other m (unlike m r.number (λ e. omega (arith, l, q, e)))))
        ∙ ap (λ rs. tabled rs k) (sym here)
