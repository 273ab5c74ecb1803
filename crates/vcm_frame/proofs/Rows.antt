-- Rows times places.
use Rattle.std.proofs.Common.{◌≡◌, ◌∙◌, ℕ, ℤ, pos, negsuc, ◌+ℤ◌, ◌-ℤ◌, ◌*ℤ◌, ap, sym, arith}
use Rattle.std.proofs.lemmas.Int.{ints}
use Rattle.vcm_num.specs.declared.axis.Axis.TheVariants.{PlusX, MinusX, PlusY, MinusY, PlusZ, MinusZ}
use Rattle.vcm_num.specs.Number.{checked}
use Rattle.vcm_frame.specs.inner.Rows.{unit_row, dot}

one_x : (a b c : ℤ) → pos 1 *ℤ a +ℤ pos 0 *ℤ b +ℤ pos 0 *ℤ c ≡ a
one_x a b c = omega (arith, ints)

one_y : (a b c : ℤ) → pos 0 *ℤ a +ℤ pos 1 *ℤ b +ℤ pos 0 *ℤ c ≡ b
one_y a b c = omega (arith, ints)

one_z : (a b c : ℤ) → pos 0 *ℤ a +ℤ pos 0 *ℤ b +ℤ pos 1 *ℤ c ≡ c
one_z a b c = omega (arith, ints)

back_x : (a b c m : ℤ) → negsuc 0 *ℤ a +ℤ pos 0 *ℤ b +ℤ pos 0 *ℤ c +ℤ m ≡ m -ℤ a
back_x a b c m = omega (arith, ints)

back_y : (a b c m : ℤ) → pos 0 *ℤ a +ℤ negsuc 0 *ℤ b +ℤ pos 0 *ℤ c +ℤ m ≡ m -ℤ b
back_y a b c m = omega (arith, ints)

back_z : (a b c m : ℤ) → pos 0 *ℤ a +ℤ pos 0 *ℤ b +ℤ negsuc 0 *ℤ c +ℤ m ≡ m -ℤ c
back_z a b c m = omega (arith, ints)

-- a row and a number, by the coordinate that the row takes
module _ (p : ℕ → ℤ) (m z : ℤ) where
  pub plus_x : z ≡ p 0 → checked (z +ℤ m) ≡ checked (dot (unit_row PlusX) p +ℤ m)
  plus_x e = ap (λ a. checked (a +ℤ m)) (e ∙ sym (one_x (p 0) (p 1) (p 2)))

  pub plus_y : z ≡ p 1 → checked (z +ℤ m) ≡ checked (dot (unit_row PlusY) p +ℤ m)
  plus_y e = ap (λ a. checked (a +ℤ m)) (e ∙ sym (one_y (p 0) (p 1) (p 2)))

  pub plus_z : z ≡ p 2 → checked (z +ℤ m) ≡ checked (dot (unit_row PlusZ) p +ℤ m)
  plus_z e = ap (λ a. checked (a +ℤ m)) (e ∙ sym (one_z (p 0) (p 1) (p 2)))

  pub minus_x : z ≡ p 0 → checked (m -ℤ z) ≡ checked (dot (unit_row MinusX) p +ℤ m)
  minus_x e = ap (λ a. checked (m -ℤ a)) e ∙ ap checked (sym (back_x (p 0) (p 1) (p 2) m))

  pub minus_y : z ≡ p 1 → checked (m -ℤ z) ≡ checked (dot (unit_row MinusY) p +ℤ m)
  minus_y e = ap (λ a. checked (m -ℤ a)) e ∙ ap checked (sym (back_y (p 0) (p 1) (p 2) m))

  pub minus_z : z ≡ p 2 → checked (m -ℤ z) ≡ checked (dot (unit_row MinusZ) p +ℤ m)
  minus_z e = ap (λ a. checked (m -ℤ a)) e ∙ ap checked (sym (back_z (p 0) (p 1) (p 2) m))

-- the way between two places, by the coordinate that the row takes
turn_round : (a b u v : ℤ) → negsuc 0 *ℤ (b -ℤ a) +ℤ pos 0 *ℤ u +ℤ pos 0 *ℤ v ≡ a -ℤ b
turn_round a b u v = omega (arith, ints)

turn_round_y : (a b u v : ℤ) → pos 0 *ℤ u +ℤ negsuc 0 *ℤ (b -ℤ a) +ℤ pos 0 *ℤ v ≡ a -ℤ b
turn_round_y a b u v = omega (arith, ints)

turn_round_z : (a b u v : ℤ) → pos 0 *ℤ u +ℤ pos 0 *ℤ v +ℤ negsuc 0 *ℤ (b -ℤ a) ≡ a -ℤ b
turn_round_z a b u v = omega (arith, ints)

module _ (p q : ℕ → ℤ) where
  pub way_x : checked (q 0 -ℤ p 0) ≡ checked (dot (unit_row PlusX) (λ k. q k -ℤ p k))
  way_x = ap checked (sym (one_x (q 0 -ℤ p 0) (q 1 -ℤ p 1) (q 2 -ℤ p 2)))

  pub way_y : checked (q 1 -ℤ p 1) ≡ checked (dot (unit_row PlusY) (λ k. q k -ℤ p k))
  way_y = ap checked (sym (one_y (q 0 -ℤ p 0) (q 1 -ℤ p 1) (q 2 -ℤ p 2)))

  pub way_z : checked (q 2 -ℤ p 2) ≡ checked (dot (unit_row PlusZ) (λ k. q k -ℤ p k))
  way_z = ap checked (sym (one_z (q 0 -ℤ p 0) (q 1 -ℤ p 1) (q 2 -ℤ p 2)))

  pub way_back_x : checked (p 0 -ℤ q 0) ≡ checked (dot (unit_row MinusX) (λ k. q k -ℤ p k))
  way_back_x = ap checked (sym (turn_round (p 0) (q 0) (q 1 -ℤ p 1) (q 2 -ℤ p 2)))

  pub way_back_y : checked (p 1 -ℤ q 1) ≡ checked (dot (unit_row MinusY) (λ k. q k -ℤ p k))
  way_back_y = ap checked (sym (turn_round_y (p 1) (q 1) (q 0 -ℤ p 0) (q 2 -ℤ p 2)))

  pub way_back_z : checked (p 2 -ℤ q 2) ≡ checked (dot (unit_row MinusZ) (λ k. q k -ℤ p k))
  way_back_z = ap checked (sym (turn_round_z (p 2) (q 2) (q 0 -ℤ p 0) (q 1 -ℤ p 1)))
