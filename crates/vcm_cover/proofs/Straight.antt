-- Straight ways that keep off blocks.
use Rattle.std.proofs.Common.{◌≡◌, ℕ, ℤ, pos, ◌+◌, ◌*◌, ◌<◌, ◌+ℤ◌, ◌*ℤ◌, ◌≤ℤ◌, arith, ap, sym, subst}
use Rattle.std.proofs.lemmas.Int.{ints}
use lib.Signed.{◌<ℤ◌}
use Rattle.vcm_num.specs.Point.{coordinate}
use Rattle.vcm_spec.specs.declared.workpiece.Block3.{Block3}
use Rattle.vcm_covering.specs.Covering.{LiesIn}
use Rattle.vcm_covering.proofs.Apart.{up_scaled, spread, scale_is}
use Rattle.vcm_cover.specs.Hollows.{IsPast, both_below, both_above, IsOnWay, FreeWaysAreFree}

times : (m n : ℕ) (z : ℤ) → pos (m * n) *ℤ z ≡ pos m *ℤ (pos n *ℤ z)
times m n z = omega (arith, ints, scale_is (m * n) z, scale_is m (pos n *ℤ z), ap (λ (k : ℕ). m * k) (scale_is n z))

turned : (m n : ℕ) (z : ℤ) → pos (m * n) *ℤ z ≡ pos n *ℤ (pos m *ℤ z)
turned m n z = omega (arith, ints, scale_is (m * n) z, scale_is n (pos m *ℤ z), ap (λ (k : ℕ). n * k) (scale_is m z))

parts : (u v : ℕ) (z : ℤ) → pos (u + v) *ℤ z ≡ pos u *ℤ z +ℤ pos v *ℤ z
parts u v z = omega (arith, ints, scale_is (u + v) z, scale_is u z, scale_is v z)

-- one more, so many times
more : (u : ℕ) (p q : ℤ) → p <ℤ q → (pos u *ℤ p +ℤ pos u) ≤ℤ (pos u *ℤ q)
more u p q lt = let le : (p +ℤ pos 1) ≤ℤ q = omega (arith, ints) in omega (arith, ints, up_scaled u (p +ℤ pos 1) q le, spread (pos u) p (pos 1))

less : (u : ℕ) (p q : ℤ) → 0 < u → p <ℤ q → (pos u *ℤ p) <ℤ (pos u *ℤ q)
less u p q some lt = omega (arith, ints, more u p q lt)

-- the two parts of a place together
both : (u v : ℕ) (p q m : ℤ) → 0 < u + v → p <ℤ m → q <ℤ m → (pos u *ℤ p +ℤ pos v *ℤ q) <ℤ (pos (u + v) *ℤ m)
both u v p q m some lp lq = omega (arith, ints, more u p m lp, more v q m lq, parts u v m)

both_over : (u v : ℕ) (p q m : ℤ) → 0 < u + v → m <ℤ p → m <ℤ q → (pos (u + v) *ℤ m) <ℤ (pos u *ℤ p +ℤ pos v *ℤ q)
both_over u v p q m some lp lq = omega (arith, ints, more u m p lp, more v m q lq, parts u v m)

under : (u v s t : ℕ) (x y l : ℤ) → 0 < u + v → 0 < s → 0 < t → x <ℤ (pos s *ℤ l) → y <ℤ (pos t *ℤ l) →
    (pos u *ℤ (pos t *ℤ x) +ℤ pos v *ℤ (pos s *ℤ y)) <ℤ (pos ((u + v) * (s * t)) *ℤ l)
under u v s t x y l some ps pt hx hy =
    let a = less t x (pos s *ℤ l) pt hx in
    let b = less s y (pos t *ℤ l) ps hy in
    let m = pos (s * t) *ℤ l in
    let lp : (pos t *ℤ x) <ℤ m = omega (arith, ints, a, turned s t l) in
    let lq : (pos s *ℤ y) <ℤ m = omega (arith, ints, b, times s t l) in
    omega (arith, ints, both u v (pos t *ℤ x) (pos s *ℤ y) m some lp lq, times (u + v) (s * t) l)

over : (u v s t : ℕ) (x y h : ℤ) → 0 < u + v → 0 < s → 0 < t → (pos s *ℤ h) <ℤ x → (pos t *ℤ h) <ℤ y →
    (pos ((u + v) * (s * t)) *ℤ h) <ℤ (pos u *ℤ (pos t *ℤ x) +ℤ pos v *ℤ (pos s *ℤ y))
over u v s t x y h some ps pt hx hy =
    let a = less t (pos s *ℤ h) x pt hx in
    let b = less s (pos t *ℤ h) y ps hy in
    let m = pos (s * t) *ℤ h in
    let lp : m <ℤ (pos t *ℤ x) = omega (arith, ints, a, turned s t h) in
    let lq : m <ℤ (pos s *ℤ y) = omega (arith, ints, b, times s t h) in
    omega (arith, ints, both_over u v (pos t *ℤ x) (pos s *ℤ y) m some lp lq, times (u + v) (s * t) h)

off : (block : Block3) (s : ℕ) (x : ℕ → ℤ) (t : ℕ) (y : ℕ → ℤ) → 0 < s → 0 < t → IsPast block s x t y → (r : ℕ) (z : ℕ → ℤ) → IsOnWay s x t y r z → LiesIn block r z → ⊥
off block s x t y ps pt (both_below k lt hx hy) r z on inside =
    let l = coordinate block.low k in
    let far = under on.u on.v s t (x k) (y k) l on.some ps pt hx hy in
    let at : (pos ((on.u + on.v) * (s * t)) *ℤ l) ≤ℤ z k = subst (λ (m : ℕ). (pos m *ℤ l) ≤ℤ z k) (sym on.whole) (inside.from_low k lt) in
    absurd (omega (arith, ints, far, at, on.on_axis k lt))
off block s x t y ps pt (both_above k lt hx hy) r z on inside =
    let h = coordinate block.high k in
    let far = over on.u on.v s t (x k) (y k) h on.some ps pt hx hy in
    let at : z k ≤ℤ (pos ((on.u + on.v) * (s * t)) *ℤ h) = subst (λ (m : ℕ). z k ≤ℤ (pos m *ℤ h)) (sym on.whole) (inside.to_high k lt) in
    absurd (omega (arith, ints, far, at, on.on_axis k lt))

pub free : FreeWaysAreFree
free blocks s x t y ps pt way r z on covered = off covered.block s x t y ps pt (way covered.index covered.block covered.stands) r z on covered.inside
