-- Sums of coordinates, as the code makes them.
use Rattle.std.proofs.Common.{◌≡◌, ℤ, ◌+ℤ◌, ◌∙◌, true, ap, to_z, of_z, w64, arith, FitsSigned}
use Rattle.std.proofs.lemmas.Bool.{and_parts}
use Rattle.std.proofs.lemmas.Int.{ints, to_z-of_z}
use Rattle.vcm_num.specs.declared.point.Point.{Point}
use Rattle.vcm_num.specs.Point.{point, coordinate, is_near, is_near_zero, IsNear}
use Rattle.vcm_num.proofs.PointLemmas.{near_read}
use Rattle.vcm_spec.proofs.Entries.{le_true}
use Rattle.vcm_place.specs.Placed.{moved}

near_zero : (z : ℤ) → is_near_zero z ≡ true → IsNear z
near_zero z e = let h = and_parts _ _ e in record { from_below = le_true _ _ h.0; from_above = le_true _ _ h.1 }

-- a coordinate as it is read, and a sum as it is made
abbrev made : ℤ → ℤ → ℤ
made x y = to_z w64 (of_z w64 (to_z w64 (of_z w64 x) +ℤ to_z w64 (of_z w64 y)))

sum_is : (x y : ℤ) → is_near_zero x ≡ true → is_near_zero y ≡ true → made x y ≡ x +ℤ y
sum_is x y e f =
    let m = near_zero x e in
    let n = near_zero y f in
    let a = m.from_below in
    let b = m.from_above in
    let c = n.from_below in
    let d = n.from_above in
    let fits : FitsSigned w64 (x +ℤ y) = omega (arith, ints) in
    rw (near_read x m, near_read y n) (to_z-of_z w64 (x +ℤ y) fits)

pub moved_is : (place p : Point) → is_near place ≡ true → is_near p ≡ true
    → point (made (coordinate p 0) (coordinate place 0)) (made (coordinate p 1) (coordinate place 1)) (made (coordinate p 2) (coordinate place 2)) ≡ moved place p
moved_is place p e f =
    let h = and_parts _ _ e in
    let k = and_parts _ _ f in
    let two = and_parts _ _ h.0 in
    let own = and_parts _ _ k.0 in
    ap (λ (t : ℤ). point t (made (coordinate p 1) (coordinate place 1)) (made (coordinate p 2) (coordinate place 2))) (sum_is (coordinate p 0) (coordinate place 0) own.0 two.0)
    ∙ ap (λ (t : ℤ). point (coordinate p 0 +ℤ coordinate place 0) t (made (coordinate p 2) (coordinate place 2))) (sum_is (coordinate p 1) (coordinate place 1) own.1 two.1)
    ∙ ap (λ (t : ℤ). point (coordinate p 0 +ℤ coordinate place 0) (coordinate p 1 +ℤ coordinate place 1) t) (sum_is (coordinate p 2) (coordinate place 2) k.1 h.1)
