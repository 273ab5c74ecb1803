-- Triangles in their ranges.
use Rattle.std.proofs.Common.{◌≡◌, ℕ, ℤ, pos, ◌+◌, ◌*◌, ◌<◌, ◌*ℤ◌, ◌+ℤ◌, ◌≤ℤ◌, arith, ap, sym, subst}
use Rattle.std.proofs.lemmas.Int.{ints}
use borrow.Author.Differences.{up, down}
use Rattle.vcm_covering.specs.Parting.{Corners, IsPoint}
use Rattle.vcm_covering.proofs.Apart.{up_scaled}
use Rattle.vcm_boxing.specs.declared.range.Range.{Range}
use Rattle.vcm_boxing.specs.declared.range.Stretch.{Stretch}
use Rattle.vcm_boxing.specs.Facets.{IsSpan}
use Rattle.vcm_boxing.specs.Ranges.{IsIn, IsOn, stretch}
use Rattle.vcm_boxing.proofs.Inside.{each_axis}

-- a mean of three numbers lies between bounds of them
mean_above : (r a b c : ℤ) (u v w s : ℕ) → r ≤ℤ a → r ≤ℤ b → r ≤ℤ c → u + v + w ≡ s → (pos s *ℤ r) ≤ℤ (pos u *ℤ a +ℤ pos v *ℤ b +ℤ pos w *ℤ c)
mean_above r a b c u v w s la lb lc whole =
    let e = ap (λ (m : ℕ). m * up r) whole in
    let f = ap (λ (m : ℕ). m * down r) whole in
    omega (arith, ints, up_scaled u r a la, up_scaled v r b lb, up_scaled w r c lc, e, f)

mean_below : (r a b c : ℤ) (u v w s : ℕ) → a ≤ℤ r → b ≤ℤ r → c ≤ℤ r → u + v + w ≡ s → (pos u *ℤ a +ℤ pos v *ℤ b +ℤ pos w *ℤ c) ≤ℤ (pos s *ℤ r)
mean_below r a b c u v w s la lb lc whole =
    let e = ap (λ (m : ℕ). m * up r) whole in
    let f = ap (λ (m : ℕ). m * down r) whole in
    omega (arith, ints, up_scaled u a r la, up_scaled v b r lb, up_scaled w c r lc, e, f)

-- a place of a triangle lies on a stretch that spans its corners
spanned : (t : Corners) (s : ℕ) (x : ℕ → ℤ) → IsPoint t s x → (k : ℕ) → k < 3 → (w : Stretch) → IsSpan (t.a k) (t.b k) (t.c k) w → IsOn w s (x k)
spanned t s x p k lt w span =
    let is = p.on_axis k lt in
    record {
      from_low = subst (λ (z : ℤ). (pos s *ℤ w.low) ≤ℤ z) (sym is) (mean_above w.low (t.a k) (t.b k) (t.c k) p.u p.v p.w s span.low_a span.low_b span.low_c p.whole);
      to_high = subst (λ (z : ℤ). z ≤ℤ (pos s *ℤ w.high)) (sym is) (mean_below w.high (t.a k) (t.b k) (t.c k) p.u p.v p.w s span.high_a span.high_b span.high_c p.whole);
      off_low = λ e. absurd (cc);
      off_high = λ e. absurd (cc);
    }

pub in_span : (t : Corners) (r : Range) → IsSpan (t.a 0) (t.b 0) (t.c 0) (stretch r 0) → IsSpan (t.a 1) (t.b 1) (t.c 1) (stretch r 1) → IsSpan (t.a 2) (t.b 2) (t.c 2) (stretch r 2)
    → (s : ℕ) (x : ℕ → ℤ) → IsPoint t s x → IsIn r s x
in_span t r sx sy sz s x p =
    let on : (k : ℕ) → k < 3 → IsSpan (t.a k) (t.b k) (t.c k) (stretch r k) = each_axis (λ (k : ℕ). IsSpan (t.a k) (t.b k) (t.c k) (stretch r k)) sx sy sz in
    record { on_axis = λ k lt. spanned t s x p k lt (stretch r k) (on k lt) }
