-- Boxes of the tip at the ends of a move, and on a line.
use Rattle.std.proofs.Common.{◌≡◌, ℕ, ℤ, pos, negsuc, ◌+ℤ◌, ◌-ℤ◌, ◌*ℤ◌, ◌≤◌, [], ◌∷◌, slice_set, true, false, arith}
use Rattle.std.proofs.lemmas.Int.{ints}
use Rattle.vcm_num.specs.declared.axis.Axis.{Axis}
use Rattle.vcm_num.specs.declared.axis.Axis.TheVariants.{PlusX, MinusX, PlusY, MinusY, PlusZ, MinusZ}
use Rattle.vcm_num.specs.Axis.{axis_of, is_forward, along}
use Rattle.vcm_num.specs.Point.{point, coordinate}
use Rattle.vcm_spec.specs.declared.workpiece.Block3.{Block3}
use Rattle.vcm_spec.proofs.Entries.{below_three}
use Rattle.vcm_motion.specs.inner.Boxes.{IsWide, IsSpan, IsHeld, IsLineBox}

pub span_grown : (h : ℕ) (p q low high : ℤ) → IsSpan p q (low +ℤ pos 0) (high -ℤ pos 0) → IsSpan p q ((low -ℤ pos h) +ℤ pos h) ((high +ℤ pos h) -ℤ pos h)
span_grown h p q low high s =
    let a = s.from_low in
    let b = s.from_high in
    let c = s.to_low in
    let d = s.to_high in
    record { from_low = omega (arith, ints); from_high = omega (arith, ints); to_low = omega (arith, ints); to_high = omega (arith, ints) }

-- across the line, ahead on it, and back
held_still : (h t : ℕ) (z : ℤ) → IsHeld h (z +ℤ (pos t *ℤ pos 0)) (z -ℤ pos h) (z +ℤ pos h)
held_still h t z = record { from_low = omega (arith, ints); to_high = omega (arith, ints) }

held_ahead : (h t : ℕ) (z : ℤ) → h ≤ 50000 → IsWide (z +ℤ (pos t *ℤ pos 1)) → IsHeld h (z +ℤ (pos t *ℤ pos 1)) (z -ℤ pos h) (pos 1000100000)
held_ahead h t z few w = let a = w.from_above in record { from_low = omega (arith, ints); to_high = omega (arith, ints) }

held_back : (h t : ℕ) (z : ℤ) → h ≤ 50000 → IsWide (z +ℤ (pos t *ℤ negsuc 0)) → IsHeld h (z +ℤ (pos t *ℤ negsuc 0)) (negsuc 1000099999) (z +ℤ pos h)
held_back h t z few w = let a = w.from_below in record { from_low = omega (arith, ints); to_high = omega (arith, ints) }

-- the boxes of lines ahead, and of lines back
abbrev forward_box : ℕ → (ℕ → ℤ) → Axis → Block3
forward_box h x d = record {
  low = point (x 0 -ℤ pos h) (x 1 -ℤ pos h) (x 2 -ℤ pos h);
  high = record { 0 = slice_set ((x 0 +ℤ pos h) ∷ (x 1 +ℤ pos h) ∷ (x 2 +ℤ pos h) ∷ []) (axis_of d) (pos 1000100000) };
}

abbrev back_box : ℕ → (ℕ → ℤ) → Axis → Block3
back_box h x d = record {
  low = record { 0 = slice_set ((x 0 -ℤ pos h) ∷ (x 1 -ℤ pos h) ∷ (x 2 -ℤ pos h) ∷ []) (axis_of d) (negsuc 1000099999) };
  high = point (x 0 +ℤ pos h) (x 1 +ℤ pos h) (x 2 +ℤ pos h);
}

abbrev HeldOn : ℕ → (ℕ → ℤ) → Axis → Block3 → ℕ → ℕ → Type 0
HeldOn h x d box t k = IsHeld h (along x d t k) (coordinate box.low k) (coordinate box.high k)

pub forward_line : (h : ℕ) → h ≤ 50000 → (x : ℕ → ℤ) (d : Axis) → is_forward d ≡ true → IsLineBox h x d (forward_box h x d)
forward_line h few x PlusX f t wide = below_three (HeldOn h x PlusX (forward_box h x PlusX) t) (held_ahead h t (x 0) few (wide 0 (omega arith))) (held_still h t (x 1)) (held_still h t (x 2))
forward_line h few x MinusX f t wide = absurd (let no : false ≡ true = f in cc)
forward_line h few x PlusY f t wide = below_three (HeldOn h x PlusY (forward_box h x PlusY) t) (held_still h t (x 0)) (held_ahead h t (x 1) few (wide 1 (omega arith))) (held_still h t (x 2))
forward_line h few x MinusY f t wide = absurd (let no : false ≡ true = f in cc)
forward_line h few x PlusZ f t wide = below_three (HeldOn h x PlusZ (forward_box h x PlusZ) t) (held_still h t (x 0)) (held_still h t (x 1)) (held_ahead h t (x 2) few (wide 2 (omega arith)))
forward_line h few x MinusZ f t wide = absurd (let no : false ≡ true = f in cc)

pub back_line : (h : ℕ) → h ≤ 50000 → (x : ℕ → ℤ) (d : Axis) → is_forward d ≡ false → IsLineBox h x d (back_box h x d)
back_line h few x PlusX f t wide = absurd (let no : true ≡ false = f in cc)
back_line h few x MinusX f t wide = below_three (HeldOn h x MinusX (back_box h x MinusX) t) (held_back h t (x 0) few (wide 0 (omega arith))) (held_still h t (x 1)) (held_still h t (x 2))
back_line h few x PlusY f t wide = absurd (let no : true ≡ false = f in cc)
back_line h few x MinusY f t wide = below_three (HeldOn h x MinusY (back_box h x MinusY) t) (held_still h t (x 0)) (held_back h t (x 1) few (wide 1 (omega arith))) (held_still h t (x 2))
back_line h few x PlusZ f t wide = absurd (let no : true ≡ false = f in cc)
back_line h few x MinusZ f t wide = below_three (HeldOn h x MinusZ (back_box h x MinusZ) t) (held_still h t (x 0)) (held_still h t (x 1)) (held_back h t (x 2) few (wide 2 (omega arith)))
