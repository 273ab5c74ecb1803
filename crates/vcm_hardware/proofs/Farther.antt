-- The farther of two reaches, and how far a ball reaches.
use Rattle.std.proofs.Common.{◌≡◌, ℕ, ℤ, ◌+◌, ◌≤◌, ◌+ℤ◌, ◌-ℤ◌, arith, refl, FitsSigned}
use Rattle.std.specs.Prelude.{unsigned_abs}
use Rattle.std.specs.Int.{int_min, int_max}
use Rattle.std.proofs.lemmas.Int.{ints, clamps, fits_signed_from_abs}
use mir.Syntax.{w32, w128}
use Rattle.vcm_hardware.specs.declared.swing.Reach.{Reach}
use Rattle.vcm_hardware.specs.Swings.{farther_of}
use Rattle.vcm_hardware.specs.inner.Sizes.{IsReached}

max_small : (a b m : ℤ) (p : ℕ) → unsigned_abs a ≤ p → unsigned_abs b ≤ p → m ≡ int_max a b → unsigned_abs m ≤ p
max_small a b m p h k e = rw e (by a b p h k)
  where
    by : (a b : ℤ) (p : ℕ) → unsigned_abs a ≤ p → unsigned_abs b ≤ p → unsigned_abs (int_max a b) ≤ p
    by a b p h k = omega (arith, ints, clamps)

min_small : (a b m : ℤ) (p : ℕ) → unsigned_abs a ≤ p → unsigned_abs b ≤ p → m ≡ int_min a b → unsigned_abs m ≤ p
min_small a b m p h k e = rw e (by a b p h k)
  where
    by : (a b : ℤ) (p : ℕ) → unsigned_abs a ≤ p → unsigned_abs b ≤ p → unsigned_abs (int_min a b) ≤ p
    by a b p h k = omega (arith, ints, clamps)

module _ (a b : Reach) (m n o p : ℤ) (em : m ≡ int_max a.far b.far) (en : n ≡ int_max a.wide b.wide) (eo : o ≡ int_max a.high b.high) (ep : p ≡ int_min a.low b.low) where
  pub farther_is : record { far = m; wide = n; high = o; low = p } ≡ farther_of a b
  farther_is = rw (em, en, eo, ep) refl

  pub farther_small : IsReached a → IsReached b → IsReached (record { far = m; wide = n; high = o; low = p })
  farther_small h k = record {
    far = max_small a.far b.far m 17179869184 h.far k.far em;
    wide = max_small a.wide b.wide n 17179869184 h.wide k.wide en;
    high = max_small a.high b.high o 17179869184 h.high k.high eo;
    low = min_small a.low b.low p 17179869184 h.low k.low ep;
  }

-- ---- a ball

pub far_sum : (d x y z r : ℤ) → FitsSigned w32 x → FitsSigned w32 y → FitsSigned w32 z → unsigned_abs d ≤ unsigned_abs x + unsigned_abs y + unsigned_abs z
    → unsigned_abs r ≤ 1073741825 → unsigned_abs (d +ℤ r) ≤ 17179869184
far_sum d x y z r fx fy fz h k = omega (arith, ints)

pub wide_sum : (w x y r : ℤ) → FitsSigned w32 x → FitsSigned w32 y → unsigned_abs w ≤ unsigned_abs x + unsigned_abs y → unsigned_abs r ≤ 1073741825
    → unsigned_abs (w +ℤ r) ≤ 17179869184
wide_sum w x y r fx fy h k = omega (arith, ints)

pub high_sum : (z r : ℤ) → FitsSigned w32 z → unsigned_abs r ≤ 1073741825 → unsigned_abs (z +ℤ r) ≤ 17179869184
high_sum z r fz k = omega (arith, ints)

pub low_sum : (z r : ℤ) → FitsSigned w32 z → unsigned_abs r ≤ 1073741825 → unsigned_abs (z -ℤ r) ≤ 17179869184
low_sum z r fz k = omega (arith, ints)

pub sum_fits : (z : ℤ) → unsigned_abs z ≤ 17179869184 → FitsSigned w128 z
sum_fits z h = fits_signed_from_abs w128 z (omega (arith, h))

pub ball_small : (d w x y z r : ℤ) → FitsSigned w32 x → FitsSigned w32 y → FitsSigned w32 z → unsigned_abs d ≤ unsigned_abs x + unsigned_abs y + unsigned_abs z
    → unsigned_abs w ≤ unsigned_abs x + unsigned_abs y → unsigned_abs r ≤ 1073741825 → IsReached (record { far = d +ℤ r; wide = w +ℤ r; high = z +ℤ r; low = z -ℤ r })
ball_small d w x y z r fx fy fz hd hw hr = record {
  far = far_sum d x y z r fx fy fz hd hr;
  wide = wide_sum w x y r fx fy hw hr;
  high = high_sum z r fz hr;
  low = low_sum z r fz hr;
}

-- ---- a cylinder that runs along x

across_far : (e x d y z r : ℤ) → unsigned_abs x ≤ 2147483648 → unsigned_abs y ≤ 2147483648 → unsigned_abs z ≤ 2147483648 → unsigned_abs r ≤ 1073741825
    → unsigned_abs d ≤ unsigned_abs y + unsigned_abs z → unsigned_abs e ≤ unsigned_abs x + unsigned_abs (d +ℤ r) → unsigned_abs e ≤ 17179869184
across_far e x d y z r hx hy hz hr hd he = omega (arith, ints)

across_wide : (w x y r : ℤ) → unsigned_abs x ≤ 2147483648 → unsigned_abs y ≤ 2147483648 → unsigned_abs r ≤ 1073741825
    → unsigned_abs w ≤ unsigned_abs x + unsigned_abs (y +ℤ r) → unsigned_abs w ≤ 17179869184
across_wide w x y r hx hy hr hw = omega (arith, ints)

end_high : (t r : ℤ) → unsigned_abs t ≤ 2147483648 → unsigned_abs r ≤ 1073741825 → unsigned_abs (t +ℤ r) ≤ 17179869184
end_high t r ht hr = omega (arith, ints)

end_low : (t r : ℤ) → unsigned_abs t ≤ 2147483648 → unsigned_abs r ≤ 1073741825 → unsigned_abs (t -ℤ r) ≤ 17179869184
end_low t r ht hr = omega (arith, ints)

pub end_fits : (t r : ℤ) → unsigned_abs t ≤ 2147483648 → unsigned_abs r ≤ 1073741825 → FitsSigned w128 (t -ℤ r)
end_fits t r ht hr = sum_fits (t -ℤ r) (end_low t r ht hr)

pub across_small : (r x y z t b d e w : ℤ) → unsigned_abs r ≤ 1073741825 → unsigned_abs x ≤ 2147483648 → unsigned_abs y ≤ 2147483648 → unsigned_abs z ≤ 2147483648
    → unsigned_abs t ≤ 2147483648 → unsigned_abs b ≤ 2147483648 → unsigned_abs d ≤ unsigned_abs y + unsigned_abs z
    → unsigned_abs e ≤ unsigned_abs x + unsigned_abs (d +ℤ r) → unsigned_abs w ≤ unsigned_abs x + unsigned_abs (y +ℤ r)
    → IsReached (record { far = e; wide = w; high = t +ℤ r; low = b -ℤ r })
across_small r x y z t b d e w hr hx hy hz ht hb hd he hw = record {
  far = across_far e x d y z r hx hy hz hr hd he;
  wide = across_wide w x y r hx hy hr hw;
  high = end_high t r ht hr;
  low = end_low b r hb hr;
}
