-- The computed end of a run is the least step that ends it.
use Rattle.std.proofs.Common.{◌≡◌, ℕ, zero, suc, ◌+◌, ◌<◌, Bool, List, Option, Some, None, refl, sym, ap, ◌∙◌, subst, arith}
use Rattle.vcm_machine.specs.Running.{Running, later}
use Rattle.vcm_console.specs.declared.reply.Reason.{Reason}
use Rattle.vcm_console.specs.declared.reply.Reason.TheVariants.{Count}
use Rattle.vcm_debug.specs.Halting.{reason, reason_after, EndsBy, RunEnds, ends_after, run_end}
use Rattle.vcm_debug.specs.Laws.{RunEndIsComputed, RunEndIsUnique}

one_later : (k j : ℕ) (found : Option Reason) (why : Reason) → EndsBy k j found why → EndsBy (suc k) (suc j) found why
one_later k j (Some r) why e = e
one_later k j None why e = (ap suc e.0, e.1)

-- one answer from what is found
one_reason : (k j : ℕ) (found : Option Reason) (why other : Reason) → EndsBy k j found why → EndsBy k j found other → why ≡ other
one_reason k j (Some r) why other e f = e ∙ sym f
one_reason k j None why other e f = e.1 ∙ sym f.1

module _ (breakpoints watches : List Bool) where
  pub Found : ℕ → ℕ → Running → Type 0
  Found k done s =
      (j : ℕ) × (why : Reason) × RunEnds breakpoints watches s k j why × (run_end breakpoints watches k done s ≡ ends_after (done + suc j) why)

  -- the end of the first step
  now_ends : (m done : ℕ) (s : Running) (why : Reason) → reason breakpoints watches s (later 1 s) ≡ Some why → Found (suc m) done s
  unfolding Found
  now_ends m done s why e =
      let k : done + suc 0 ≡ suc done = omega arith in (
        0,
        why,
        record {
          within = omega arith;
          none_earlier = λ i l. absurd (omega arith);
          ends = subst (λ r. EndsBy (suc m) 1 r why) (sym e) refl;
        },
        ap (λ r. elim r [ Some w ↦ ends_after (suc done) w | None ↦ run_end breakpoints watches m (suc done) (later 1 s) ]) e ∙ ap (λ n. ends_after n why) (sym k),
      )

  last_ends : (done : ℕ) (s : Running) → reason breakpoints watches s (later 1 s) ≡ None → Found 1 done s
  unfolding Found
  last_ends done s e =
      let k : done + suc 0 ≡ suc done = omega arith in (
        0,
        Count,
        record {
          within = omega arith;
          none_earlier = λ i l. absurd (omega arith);
          ends = subst (λ r. EndsBy 1 1 r Count) (sym e) (refl, refl);
        },
        ap (λ r. elim r [ Some w ↦ ends_after (suc done) w | None ↦ run_end breakpoints watches 0 (suc done) (later 1 s) ]) e ∙ ap (λ n. ends_after n Count) (sym k),
      )

  none_before : (s : Running) (j : ℕ) → reason breakpoints watches s (later 1 s) ≡ None → ((i : ℕ) → i < j → reason_after breakpoints watches (later 1 s) i ≡ None)
      → (i : ℕ) → i < suc j → reason_after breakpoints watches s i ≡ None
  none_before s j e f zero l = e
  none_before s j e f (suc i) l = f i (omega arith)

  later_ends : (m done : ℕ) (s : Running) → reason breakpoints watches s (later 1 s) ≡ None → Found m (suc done) (later 1 s) → Found (suc m) done s
  unfolding Found
  later_ends m done s e f =
      let k : suc done + suc f.0 ≡ done + suc (suc f.0) = omega arith in (
        suc f.0,
        f.1,
        record {
          within = (let w = f.2.within in omega arith);
          none_earlier = none_before s f.0 e f.2.none_earlier;
          ends = one_later m (suc f.0) _ f.1 f.2.ends;
        },
        ap (λ r. elim r [ Some w ↦ ends_after (suc done) w | None ↦ run_end breakpoints watches m (suc done) (later 1 s) ]) e ∙ f.3 ∙ ap (λ n. ends_after n f.1) k,
      )

  first_or : (m done : ℕ) (s : Running) (r : Option Reason) → reason breakpoints watches s (later 1 s) ≡ r → ((n : ℕ) → m ≡ suc n → Found m (suc done) (later 1 s)) → Found (suc m) done s
  first_or m done s (Some why) e ih = now_ends m done s why e
  first_or zero done s None e ih = last_ends done s e
  first_or (suc n) done s None e ih = later_ends (suc n) done s e (ih n refl)

  pub found : (k done : ℕ) (s : Running) → 0 < k → Found k done s
  found zero done s l = absurd (omega arith)
  found (suc m) done s l = first_or m done s (reason breakpoints watches s (later 1 s)) refl (λ n e. found m (suc done) (later 1 s) (omega (arith, e)))

pub run_end_computed : RunEndIsComputed
unfolding Found
run_end_computed breakpoints watches s k l =
    let f = found breakpoints watches k 0 s l in
    let e : 0 + suc f.0 ≡ suc f.0 = omega arith in
    (f.0, f.1, f.2, f.3 ∙ ap (λ n. ends_after n f.1) e)

-- of two ends neither is earlier
module _ (breakpoints watches : List Bool) (s : Running) (k : ℕ) where
  not_earlier : (i j : ℕ) (a b : Reason) → RunEnds breakpoints watches s k i a → RunEnds breakpoints watches s k j b → i < j → ⊥
  not_earlier i j a b e f l =
      let last = subst (λ r. EndsBy k (suc i) r a) (f.none_earlier i l) e.ends in
      let w = f.within in
      let z = last.0 in
      absurd (omega arith)

  pub one_end : (i j : ℕ) (a b : Reason) → RunEnds breakpoints watches s k i a → RunEnds breakpoints watches s k j b → ends_after (suc i) a ≡ ends_after (suc j) b
  one_end i j a b e f =
      let n : ¬ (i < j) = not_earlier i j a b e f in
      let m : ¬ (j < i) = not_earlier j i b a f e in
      let same : i ≡ j = omega (arith, n, m) in
      let t = one_reason k (suc j) _ a b (subst (λ x. EndsBy k (suc x) (reason_after breakpoints watches s x) a) same e.ends) f.ends in
      ap (λ x. ends_after (suc x) a) same ∙ ap (ends_after (suc j)) t

pub run_end_unique : RunEndIsUnique
run_end_unique breakpoints watches s k j why e =
    let w = e.within in
    let f = run_end_computed breakpoints watches s k (omega arith) in
    one_end breakpoints watches s k j f.0 why f.1 e f.2 ∙ sym f.3
