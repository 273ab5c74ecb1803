-- Stepping by source lines, a step at a time.
use Rattle.std.proofs.Common.{◌≡◌, ℕ, zero, suc, ◌+◌, ◌-◌, ◌<◌, ◌≤◌, true, false, refl, sym, ap, ◌∙◌, arith}
use Rattle.std.specs.Prelude.{Result, Ok, Err, IfErr}
use native.Mathlib.Numerals.{unary_clauses}
use Rattle.vcm_debug.specs.Debugging.{Debugging}
use Rattle.vcm_debug.specs.Session.{at_count, HaltsAfter}
use Rattle.vcm_over.specs.Over.{line_at, stepped, wanted_behind, is_done, over_from, IsOnWay}

-- a step further, where the session isn't done
pub goes_on : (n wanted : ℕ) (d e : Debugging) → 0 < n → is_done wanted d ≡ false → e ≡ over_from n wanted d
    → e ≡ over_from (n - 1) (wanted_behind (line_at d) (line_at (stepped d)) wanted) (stepped d)
unfolding over_from
goes_on zero wanted d e some going is = elim some [ ]
goes_on (suc n) wanted d e some going is = is ∙ rw going (simp unary_clauses refl)

-- where it is done, it stays
pub is_there : (n wanted : ℕ) (d e : Debugging) → is_done wanted d ≡ true → e ≡ over_from n wanted d → d ≡ e
unfolding over_from
is_there zero wanted d e done is = sym is
is_there (suc n) wanted d e done is = sym (is ∙ rw done refl)

-- and behind all steps
pub is_behind : (n wanted : ℕ) (d e : Debugging) → n ≡ 0 → e ≡ over_from n wanted d → d ≡ e
unfolding over_from
is_behind n wanted d e none is = sym (is ∙ ap (λ k. over_from k wanted d) none)

-- a step that was refused memory leaves the session where it was
pub stays : (d new : Debugging) (done : ℕ) → HaltsAfter d 1 done new → new ≡ d
stays d new done h = let none : d.count + done ≡ d.count = omega (arith, h.within) in h.session ∙ ap (λ n. at_count d n) none

-- the way so far is a front of the way
pub further : (most left lines wanted : ℕ) (d s : Debugging) → 0 < left → left ≤ most → is_done wanted s ≡ false
    → ((n : ℕ) → over_from (n + (most - left)) lines d ≡ over_from n wanted s)
    → (n : ℕ) → over_from (n + (most - (left - 1))) lines d ≡ over_from n (wanted_behind (line_at s) (line_at (stepped s)) wanted) (stepped s)
unfolding over_from
further most left lines wanted d s some within going is n =
    let more : n + (most - (left - 1)) ≡ suc n + (most - left) = omega (arith, some, within) in
    ap (λ k. over_from k lines d) more ∙ is (suc n) ∙ rw going refl

-- at the start there is no way
pub at_start : (most lines : ℕ) (d : Debugging) (n : ℕ) → over_from (n + (most - most)) lines d ≡ over_from n lines d
at_start most lines d n = let none : n + (most - most) ≡ n = omega arith in ap (λ k. over_from k lines d) none

-- and where it stands now is on the way
pub so_far : (most left lines wanted : ℕ) (d s : Debugging) → ((n : ℕ) → over_from (n + (most - left)) lines d ≡ over_from n wanted s) → s ≡ over_from (most - left) lines d
unfolding over_from
so_far most left lines wanted d s is = sym (is 0) ∙ let none : 0 + (most - left) ≡ most - left = omega arith in ap (λ k. over_from k lines d) none

-- where memory was refused it is told so
pub on_way : {A E : Type 0} (r : Result A E) (wanted done : ℕ) (d s new : Debugging) → done < 1000000 → s ≡ over_from done wanted d → new ≡ s
    → IfErr r (λ h. IsOnWay wanted d new)
on_way (Ok a) wanted done d s new few is same = tt
on_way (Err e) wanted done d s new few is same = (done, few, same ∙ is)
