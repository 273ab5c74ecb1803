-- Ticks, one more at a time.
use Rattle.std.proofs.Common.{◌≡◌, ◌∙◌, ap, subst, ℕ, suc, ◌+◌, ◌≤◌, arith, ℤ, Bool, true, false, cond, List, [], ◌∷◌, ◌++◌, refl}
use Rattle.std.specs.List.{AllByRecursion}
use Rattle.vcm_sheet.specs.declared.ticks.Ruler.{Ruler}
use Rattle.vcm_sheet.specs.Ticks.{is_tick, tick_at, multiple_after, ticks_before, ticks_of}

-- numbers where ticks stand
abbrev pub AreTicks : Ruler → List ℤ → Type 0
AreTicks r zs = AllByRecursion (λ z. is_tick r z ≡ true) zs

one_tick : (r : Ruler) (t : Bool) (z : ℤ) → is_tick r z ≡ t → AreTicks r (cond t (z ∷ []) [])
one_tick r true z e = (e, tt)
one_tick r false z e = tt

both_ticks : (r : Ruler) (some more : List ℤ) → AreTicks r some → AreTicks r more → AreTicks r (some ++ more)
both_ticks r [] more h k = k
both_ticks r (z ∷ zs) more h k = (h.0, both_ticks r zs more h.1 k)

-- with one more tick, if it is one
pub ticks_more : (r : Ruler) (zs : List ℤ) (z : ℤ) → AreTicks r zs → AreTicks r (zs ++ tick_at r z)
ticks_more r zs z h = both_ticks r zs (tick_at r z) h (one_tick r (is_tick r z) z refl)

pub one_more_tick : (r : Ruler) (n : ℕ) (ts new : List ℤ) (z : ℤ) → ts ≡ ticks_before r n → z ≡ multiple_after r n → new ≡ ts ++ tick_at r z
    → new ≡ ticks_before r (n + 1)
one_more_tick r n ts new z h k e =
    let s : suc n ≡ n + 1 = omega arith in
    subst (λ m. new ≡ ticks_before r m) s (e ∙ ap (λ y. ts ++ tick_at r y) k ∙ ap (λ l. l ++ tick_at r (multiple_after r n)) h)

pub all_ticks : (r : Ruler) (n : ℕ) (ts : List ℤ) → ts ≡ ticks_before r n → n ≤ 64 → 64 ≤ n → ts ≡ ticks_of r
unfolding ticks_of
all_ticks r n ts h most least =
    let k : n ≡ 64 = omega arith in
    subst (λ m. ts ≡ ticks_before r m) k h
