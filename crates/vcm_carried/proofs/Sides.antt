-- Sides of boxes, and points on ways, as the code reads and makes them.
use Rattle.std.proofs.Common.{◌≡◌, ℕ, ℤ, ◌+ℤ◌, ◌-ℤ◌, ◌∙◌, ap, to_z, of_z, w64, arith, FitsSigned}
use Rattle.std.specs.Int.{int_min, int_max}
use Rattle.std.proofs.lemmas.Int.{ints, clamps, to_z-of_z}
use Rattle.vcm_num.specs.declared.point.Point.{Point}
use Rattle.vcm_num.specs.Point.{point, IsNear}
use Rattle.vcm_num.proofs.PointLemmas.{near_read}
use Rattle.vcm_spec.specs.FirstContact.{fraction}
use Rattle.vcm_motion.specs.inner.Boxes.{IsSpan}
use Rattle.vcm_motion.specs.Places.{part_of_way, point_on_way}
use Rattle.vcm_motion.proofs.Wide.{min_near, max_near}
use Rattle.vcm_carried.specs.Carried.{AreSides}

module _ (l u : ℤ) (s : AreSides 10050000 l u) where
  pub left_read : to_z w64 (of_z w64 l) ≡ l
  left_read = let a = s.from_below in let b = s.order in let c = s.from_above in to_z-of_z w64 l (omega (arith, ints))

  pub right_read : to_z w64 (of_z w64 u) ≡ u
  right_read = let a = s.from_below in let b = s.order in let c = s.from_above in to_z-of_z w64 u (omega (arith, ints))

  pub sides_again : AreSides 10050000 (to_z w64 (of_z w64 l)) (to_z w64 (of_z w64 u))
  sides_again = rw (left_read, right_read) s

-- the point of three coordinates at a fraction of a way
pub made_of : (x y : ℕ → ℤ) (a b : ℕ) (p : Point) (u v w : ℤ) → p ≡ point u v w → u ≡ part_of_way (fraction a b) (x 0) (y 0)
    → v ≡ part_of_way (fraction a b) (x 1) (y 1) → w ≡ part_of_way (fraction a b) (x 2) (y 2) → p ≡ point_on_way (fraction a b) x y
made_of x y a b p u v w e eu ev ew =
    e ∙ ap (λ (t : ℤ). point t v w) eu ∙ ap (λ (t : ℤ). point (part_of_way (fraction a b) (x 0) (y 0)) t w) ev
    ∙ ap (λ (t : ℤ). point (part_of_way (fraction a b) (x 0) (y 0)) (part_of_way (fraction a b) (x 1) (y 1)) t) ew

-- ---- the ends of a swept area, on one axis

module _ (p q l u : ℤ) (np : IsNear p) (nq : IsNear q) (s : AreSides 10050000 l u) where
  module _ (m : ℤ) (e : m ≡ int_min (to_z w64 (of_z w64 p)) (to_z w64 (of_z w64 q))) where
    lesser : m ≡ int_min p q
    lesser = rw (near_read p np, near_read q nq) at e

    lesser_near : IsNear m
    lesser_near = rw lesser (min_near p q np nq)

    low_sum : FitsSigned w64 (m +ℤ l)
    low_sum =
        let a = lesser_near.from_below in
        let b = lesser_near.from_above in
        let c = s.from_below in
        let d = s.order in
        let f = s.from_above in
        omega (arith, ints)

    pub low_fits : FitsSigned w64 (to_z w64 (of_z w64 m) +ℤ to_z w64 (of_z w64 l))
    low_fits = rw (near_read m lesser_near, left_read l u s) low_sum

    low_read : to_z w64 (of_z w64 (to_z w64 (of_z w64 m) +ℤ to_z w64 (of_z w64 l))) ≡ m +ℤ l
    low_read = rw (near_read m lesser_near, left_read l u s) (to_z-of_z w64 (m +ℤ l) low_sum)

  module _ (m : ℤ) (e : m ≡ int_max (to_z w64 (of_z w64 p)) (to_z w64 (of_z w64 q))) where
    greater : m ≡ int_max p q
    greater = rw (near_read p np, near_read q nq) at e

    greater_near : IsNear m
    greater_near = rw greater (max_near p q np nq)

    high_sum : FitsSigned w64 (m +ℤ u)
    high_sum =
        let a = greater_near.from_below in
        let b = greater_near.from_above in
        let c = s.from_below in
        let d = s.order in
        let f = s.from_above in
        omega (arith, ints)

    pub high_fits : FitsSigned w64 (to_z w64 (of_z w64 m) +ℤ to_z w64 (of_z w64 u))
    high_fits = rw (near_read m greater_near, right_read l u s) high_sum

    high_read : to_z w64 (of_z w64 (to_z w64 (of_z w64 m) +ℤ to_z w64 (of_z w64 u))) ≡ m +ℤ u
    high_read = rw (near_read m greater_near, right_read l u s) (to_z-of_z w64 (m +ℤ u) high_sum)

  pub span_of : (m n : ℤ) → m ≡ int_min (to_z w64 (of_z w64 p)) (to_z w64 (of_z w64 q)) → n ≡ int_max (to_z w64 (of_z w64 p)) (to_z w64 (of_z w64 q))
      → IsSpan p q (to_z w64 (of_z w64 (to_z w64 (of_z w64 m) +ℤ to_z w64 (of_z w64 l))) -ℤ l) (to_z w64 (of_z w64 (to_z w64 (of_z w64 n) +ℤ to_z w64 (of_z w64 u))) -ℤ u)
  span_of m n e f =
      let a = lesser m e in
      let b = greater n f in
      let c = low_read m e in
      let d = high_read n f in
      record { from_low = omega (arith, ints, clamps, a, c); from_high = omega (arith, ints, clamps, b, d); to_low = omega (arith, ints, clamps, a, c); to_high = omega (arith, ints, clamps, b, d) }
