-- One step more is counted.
use Rattle.std.proofs.Common.{◌≡◌, ℕ, suc, ◌+◌, ◌-◌, ◌^◌, ◌<◌, ◌≤◌, Bool, true, false, min, nat_eq, nat_lt, List, [], ◌∷◌, ◌++◌, length, set, Option, refl, sym, ap, ◌∙◌, subst, arith}
use Rattle.std.specs.Prelude.{if◌then◌else◌, unwrap_or, option_and_then}
use Rattle.std.proofs.lemmas.List.{length-append}
use Rattle.std.proofs.lemmas.Option.{slice_get_past}
use Rattle.vcm_spec.specs.Effect.{at_index}
use Rattle.vcm_remarks.specs.declared.remark.NumberedRemark.{NumberedRemark}
use Rattle.vcm_steps.specs.Passages.{Passage}
use Rattle.vcm_untried.specs.declared.counting.Progress.{Progress}
use Rattle.vcm_untried.specs.Causes.{cause_in}
use Rattle.vcm_untried.specs.Times.{times}
use Rattle.vcm_untried.specs.Telling.{shown, told_if, told_of, remark_on, nothing_told}
use Rattle.vcm_untried.specs.inner.Short.{AreBelow}
use Rattle.vcm_untried.specs.inner.Following.{ranged, reading, one_more_at, AreWithin, IsKept, HasCounted}
use Rattle.vcm_untried.proofs.Tables.{unlike, length_ranged, get_ranged, set_ranged}
use Rattle.vcm_untried.proofs.Short.{at_more, of_at_most, behind_more}

-- ---- how often a statement is taken

times_more : (ps : List Passage) (p : Passage) (m : ℕ) → times (ps ++ p ∷ []) m ≡ times ps m + (if nat_eq p.number m then 1 else 0)
times_more [] p m = omega arith
times_more (q ∷ ps) p m = let e = times_more ps p m in omega (arith, e)

times_most : (ps : List Passage) (m : ℕ) → times ps m ≤ length ps
times_most [] m = omega arith
times_most (p ∷ ps) m = by (nat_eq p.number m) (times_most ps m)
  where
    by : (b : Bool) → times ps m ≤ length ps → (if b then 1 else 0) + times ps m ≤ suc (length ps)
    by true l = omega (arith, l)
    by false l = omega (arith, l)

reading_is : (f : ℕ → ℕ) (k n : ℕ) → n < k → reading (ranged f 0 k) n ≡ f n
reading_is f k n l = ap (λ o. unwrap_or o 0) (get_ranged f k n l)

-- one step more of a statement
taken_more : (ps : List Passage) (p : Passage) (k : ℕ) → p.number < k → length ps + 1 < 2 ^ 64
    → one_more_at (ranged (times ps) 0 k) p.number ≡ ranged (times (ps ++ p ∷ [])) 0 k
taken_more ps p k l short =
    let n = p.number in
    let counts = ranged (times ps) 0 k in
    let within : nat_lt n (length counts) ≡ true = (let e = length_ranged (times ps) 0 k in grind (arith, e, l)) in
    let sum : min (reading counts n + 1) (2 ^ 64 - 1) ≡ times ps n + 1 =
    (let e = reading_is (times ps) k n l in let most = times_most ps n in omega (arith, e, most, short)) in
    let one : times (ps ++ p ∷ []) n ≡ times ps n + 1 =
    times_more ps p n ∙ ap (λ b. times ps n + (if b then 1 else 0)) (let e : nat_eq n n ≡ true = grind arith in e) in
    let none : (m : ℕ) → nat_eq m n ≡ false → times (ps ++ p ∷ []) m ≡ times ps m =
    (λ m e. times_more ps p m
    ∙ ap (λ b. times ps m + (if b then 1 else 0)) (unlike n m (λ q. grind (arith, e, q)))
    ∙ (let z : times ps m + 0 ≡ times ps m = omega arith in z)) in
    ap (λ b. if b then set counts n (min (reading counts n + 1) (2 ^ 64 - 1)) else counts) within
    ∙ ap (set counts n) sum
    ∙ set_ranged (times ps) (times (ps ++ p ∷ [])) k n (times ps n + 1) one none

-- a statement that isn't there isn't taken
times_past : (ps : List Passage) (k m : ℕ) → AreWithin k ps → k ≤ m → times ps m ≡ 0
times_past [] k m h l = refl
times_past (p ∷ ps) k m h l =
    let a = h.0 in
    ap (λ b. (if b then 1 else 0) + times ps m) (unlike p.number m (λ q. omega (arith, a, l, q)))
    ∙ (let e = times_past ps k m h.1 l in let z : 0 + times ps m ≡ 0 = omega (arith, e) in z)

-- what stands in a table of all statements is how often they are taken
pub reading_times : (ps : List Passage) (k m : ℕ) → AreWithin k ps → reading (ranged (times ps) 0 k) m ≡ times ps m
reading_times ps k m h = by (nat_lt m k) refl
  where
    by : (b : Bool) → nat_lt m k ≡ b → reading (ranged (times ps) 0 k) m ≡ times ps m
    by true e = reading_is (times ps) k m (grind (arith, e))
    by false e =
        let l : k ≤ m = grind (arith, e) in
        ap (λ o. unwrap_or o 0) (slice_get_past (ranged (times ps) 0 k) m (let q = length_ranged (times ps) 0 k in omega (arith, q, l)))
        ∙ sym (times_past ps k m h l)

-- ---- all that is counted

pub within_front : (k : ℕ) (ps : List Passage) (p : Passage) → AreWithin k (ps ++ p ∷ []) → AreWithin k ps × (p.number < k)
within_front k [] p h = (tt, h.0)
within_front k (q ∷ ps) p h = let r = within_front k ps p h.1 in ((h.0, r.0), r.1)

module _ (remarks : List NumberedRemark) (table : List (Option NumberedRemark)) (from old new : Progress) (ps : List Passage) (p : Passage)
    (has : HasCounted remarks table from old ps) (taken : new.taken.items ≡ one_more_at old.taken.items p.number)
    (told : AreBelow old.told.rows.items → shown new.told ≡ told_if (shown old.told) (at_index table p.number) (cause_in p.before.variables)) where
  pub one_more : HasCounted remarks table from new (ps ++ p ∷ [])
  one_more is =
      let k = length table in
      let within = within_front k ps p is.within in
      let longer : length (ps ++ p ∷ []) ≡ length ps + 1 = length-append ps (p ∷ []) in
      let short : length ps + 1 < 2 ^ 64 = (let s = is.short in omega (arith, longer, s)) in
      let kept : IsKept remarks k ps old = has (record { table_is = is.table_is; opening = is.opening; short = omega (arith, short); within = within.0 }) in
      let below : AreBelow old.told.rows.items =
      subst (λ rows. AreBelow rows) (sym (ap (λ t. t.rows) kept.told)) (at_more (length ps) (2 ^ 64 - 2) (told_of remarks ps).rows (omega (arith, short)) (of_at_most remarks ps)) in
      let on : at_index table p.number ≡ remark_on remarks p.number =
      ap (λ t. at_index t p.number) is.table_is ∙ ap (λ o. option_and_then (λ x. x) o) (get_ranged (remark_on remarks) k p.number within.1) in
      record {
        taken = taken ∙ ap (λ t. one_more_at t p.number) kept.taken ∙ taken_more ps p k within.1 short;
        told = told below ∙ ap (λ t. told_if t (at_index table p.number) (cause_in p.before.variables)) kept.told
            ∙ ap (λ o. told_if (told_of remarks ps) o (cause_in p.before.variables)) on
            ∙ sym (behind_more remarks nothing_told ps p);
      }
