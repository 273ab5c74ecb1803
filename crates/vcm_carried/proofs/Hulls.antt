-- The box that holds two, on one axis.
use Rattle.std.proofs.Common.{◌≡◌, ℤ, pos, ◌-ℤ◌, ◌≤ℤ◌, to_z, of_z, w64, arith}
use Rattle.std.specs.Int.{int_min, int_max}
use Rattle.std.proofs.lemmas.Int.{ints, clamps, to_z-of_z}
use Rattle.vcm_carried.specs.Carried.{AreSides}

-- a side as the code reads it
read : (z : ℤ) → (pos 0 -ℤ pos 10000000) ≤ℤ z → z ≤ℤ pos 10000000 → to_z w64 (of_z w64 z) ≡ z
read z low high = to_z-of_z w64 z (omega (arith, ints, low, high))

module _ (l u v w m n : ℤ) (s : AreSides 10000000 l u) (t : AreSides 10000000 v w) (e : m ≡ int_min (to_z w64 (of_z w64 l)) (to_z w64 (of_z w64 v)))
    (f : n ≡ int_max (to_z w64 (of_z w64 u)) (to_z w64 (of_z w64 w))) where
  left : to_z w64 (of_z w64 l) ≡ l
  left = let a = s.order in let b = s.from_above in read l s.from_below (omega (arith, ints, a, b))

  right : to_z w64 (of_z w64 u) ≡ u
  right = let a = s.order in let b = s.from_below in read u (omega (arith, ints, a, b)) s.from_above

  other_left : to_z w64 (of_z w64 v) ≡ v
  other_left = let a = t.order in let b = t.from_above in read v t.from_below (omega (arith, ints, a, b))

  other_right : to_z w64 (of_z w64 w) ≡ w
  other_right = let a = t.order in let b = t.from_below in read w (omega (arith, ints, a, b)) t.from_above

  lesser : m ≡ int_min l v
  lesser = rw (left, other_left) at e

  greater : n ≡ int_max u w
  greater = rw (right, other_right) at f

  both : AreSides 10000000 m n
  both =
      let a = s.from_below in
      let b = s.order in
      let c = s.from_above in
      let g = t.from_below in
      let h = t.order in
      let i = t.from_above in
      let j = lesser in
      let k = greater in
      record { from_below = omega (arith, ints, clamps); order = omega (arith, ints, clamps); from_above = omega (arith, ints, clamps) }

  least : to_z w64 (of_z w64 m) ≡ m
  least = let a = both.order in let b = both.from_above in read m both.from_below (omega (arith, ints, a, b))

  most : to_z w64 (of_z w64 n) ≡ n
  most = let a = both.order in let b = both.from_below in read n (omega (arith, ints, a, b)) both.from_above

  pub sides_around : AreSides 10000000 (to_z w64 (of_z w64 m)) (to_z w64 (of_z w64 n))
  sides_around = rw (least, most) both

  pub holds_one : (to_z w64 (of_z w64 m) ≤ℤ l) × (u ≤ℤ to_z w64 (of_z w64 n))
  holds_one = rw (least, most) (let j = lesser in let k = greater in (omega (arith, ints, clamps), omega (arith, ints, clamps)))

  pub holds_other : (to_z w64 (of_z w64 m) ≤ℤ v) × (w ≤ℤ to_z w64 (of_z w64 n))
  holds_other = rw (least, most) (let j = lesser in let k = greater in (omega (arith, ints, clamps), omega (arith, ints, clamps)))
