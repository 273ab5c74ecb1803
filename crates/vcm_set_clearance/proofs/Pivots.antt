-- The place of a pivot, as the code makes it.
use Rattle.std.proofs.Common.{◌≡◌, ℕ, ◌<◌, ℤ, pos, negsuc, Some, ◌+ℤ◌, ◌-ℤ◌, ◌≤ℤ◌, true, sym, ap, ◌∙◌, subst, to_z, of_z, w64, arith, FitsSigned}
use Rattle.std.proofs.lemmas.Bool.{and_parts, and_from}
use Rattle.std.proofs.lemmas.Int.{ints, to_z-of_z}
use Rattle.vcm_num.specs.declared.point.Point.{Point}
use Rattle.vcm_num.specs.Point.{point, coordinate, is_near_zero, is_near, IsNear}
use Rattle.vcm_num.proofs.PointLemmas.{near_read}
use Rattle.vcm_spec.proofs.Entries.{le_true, true_le, below_three}
use Rattle.vcm_motion.proofs.Inside.{reachable}
use Rattle.vcm_boxes.specs.Boxes.{is_by_tip, is_corner}
use Rattle.vcm_probe_set.specs.Probes.{Probe}
use Rattle.vcm_turning.specs.Machine.{HangsNear}
use Rattle.vcm_set_clearance.specs.Events.{pivot_at}

-- a coordinate is at most ten metres from 0
pub record IsAtHand (z : ℤ) : Type 0 where
  pub from_below : negsuc 9999999 ≤ℤ z
  pub from_above : z ≤ℤ pos 10000000

by_tip : (z : ℤ) → is_by_tip z ≡ true → IsAtHand z
by_tip z e =
    let h = and_parts _ _ e in
    record { from_below = le_true (negsuc 9999999) z h.0; from_above = le_true z (pos 10000000) h.1 }

pub corner : (p : Point) → is_corner p ≡ true → (k : ℕ) → k < 3 → IsAtHand (coordinate p k)
corner p e =
    let h = and_parts _ _ e in
    let two = and_parts _ _ h.0 in below_three (λ k. IsAtHand (coordinate p k)) (by_tip _ two.0) (by_tip _ two.1) (by_tip _ h.1)

-- ---- on one axis

module _ (x a : ℤ) (n : IsNear x) (c : IsAtHand a) where
  own : to_z w64 (of_z w64 a) ≡ a
  own = let l = c.from_below in let u = c.from_above in to_z-of_z w64 a (omega (arith, ints, l, u))

  sum_fits : FitsSigned w64 (x +ℤ a)
  sum_fits =
      let l = c.from_below in
      let u = c.from_above in
      let b = n.from_below in
      let t = n.from_above in
      omega (arith, ints, l, u, b, t)

  pub added_fits : FitsSigned w64 (to_z w64 (of_z w64 x) +ℤ to_z w64 (of_z w64 a))
  added_fits = rw (near_read x n, own) sum_fits

  pub added_is : to_z w64 (of_z w64 (to_z w64 (of_z w64 x) +ℤ to_z w64 (of_z w64 a))) ≡ x +ℤ a
  added_is = rw (near_read x n, own) (to_z-of_z w64 (x +ℤ a) sum_fits)

-- ---- of a point and a pivot

module _ (at : Point) (p : Probe) (here : is_near at ≡ true) (hand : is_corner p.pivot ≡ true) where
  pub fits_on : (k : ℕ) → k < 3 → FitsSigned w64 (to_z w64 (of_z w64 (coordinate at k)) +ℤ to_z w64 (of_z w64 (coordinate p.pivot k)))
  fits_on k l = added_fits (coordinate at k) (coordinate p.pivot k) (reachable at here k l) (corner p.pivot hand k l)

  pub sum_on : (k : ℕ) → k < 3 → to_z w64 (of_z w64 (to_z w64 (of_z w64 (coordinate at k)) +ℤ to_z w64 (of_z w64 (coordinate p.pivot k)))) ≡ coordinate at k +ℤ coordinate p.pivot k
  sum_on k l = added_is (coordinate at k) (coordinate p.pivot k) (reachable at here k l) (corner p.pivot hand k l)

  -- the pivot is near where the machine hangs near
  pub pivot_near : HangsNear (Some p) at → is_near (pivot_at at p) ≡ true
  pivot_near h = and_from _ _ (and_from _ _ (one 0 (omega arith)) (one 1 (omega arith))) (one 2 (omega arith))
    where
      one : (k : ℕ) → k < 3 → is_near_zero (coordinate at k +ℤ coordinate p.pivot k) ≡ true
      one k l =
          let w = h k l in
          let a = w.0 in
          let b = w.1 in
          let z = coordinate at k +ℤ coordinate p.pivot k in
          and_from _ _ (true_le (negsuc 999999999) z (omega (arith, ints, a, b))) (true_le z (pos 1000000000) (omega (arith, ints, a, b)))
