-- Places in ranges, in parts of them, and in blocks.
use Rattle.std.proofs.Common.{◌≡◌, ℕ, ℤ, pos, ◌<◌, ◌*ℤ◌, ◌≤ℤ◌, Bool, true, false, ◌==◌, if◌then◌else◌, arith, refl, sym, subst, zero, suc}
use Rattle.std.proofs.lemmas.Int.{ints}
use lib.Signed.{◌<ℤ◌}
use Rattle.std.proofs.lemmas.Bool.Decides.{nat_tests}
use Rattle.vcm_num.specs.Point.{coordinate}
use Rattle.vcm_spec.specs.declared.workpiece.Block3.{Block3}
use Rattle.vcm_covering.specs.Covering.{LiesIn}
use Rattle.vcm_covering.proofs.Apart.{up_scaled}
use Rattle.vcm_boxing.specs.declared.range.Range.{Range}
use Rattle.vcm_boxing.specs.declared.range.Stretch.{Stretch}
use Rattle.vcm_boxing.specs.Ranges.{IsIn, IsOn, IsWith, stretch, lows, highs}

-- a closed stretch that holds another one
pub record IsWide (low high : ℤ) (w : Stretch) : Type 0 where
  pub below : low ≤ℤ w.low
  pub above : w.high ≤ℤ high

from_low : (s : ℕ) (a b z : ℤ) → a ≤ℤ b → (pos s *ℤ b) ≤ℤ z → (pos s *ℤ a) ≤ℤ z
from_low s a b z le h = omega (arith, ints, up_scaled s a b le)

to_high : (s : ℕ) (a b z : ℤ) → a ≤ℤ b → z ≤ℤ (pos s *ℤ a) → z ≤ℤ (pos s *ℤ b)
to_high s a b z le h = omega (arith, ints, up_scaled s a b le)

-- the three axes
pub each_axis : (P : ℕ → Type 0) → P 0 → P 1 → P 2 → (k : ℕ) → k < 3 → P k
each_axis P x y z zero lt = x
each_axis P x y z (suc zero) lt = y
each_axis P x y z (suc (suc zero)) lt = z
each_axis P x y z (suc (suc (suc k))) lt = absurd (omega arith)

pub in_block : (b : Block3) (r : Range) → IsWide (coordinate b.low 0) (coordinate b.high 0) (stretch r 0) → IsWide (coordinate b.low 1) (coordinate b.high 1) (stretch r 1)
    → IsWide (coordinate b.low 2) (coordinate b.high 2) (stretch r 2) → (s : ℕ) (x : ℕ → ℤ) → IsIn r s x → LiesIn b s x
in_block b r wx wy wz s x i =
    let wide : (k : ℕ) → k < 3 → IsWide (coordinate b.low k) (coordinate b.high k) (stretch r k) =
    each_axis (λ (k : ℕ). IsWide (coordinate b.low k) (coordinate b.high k) (stretch r k)) wx wy wz in
    record {
      from_low = λ k lt. from_low s (coordinate b.low k) (lows r k) (x k) (wide k lt).below (i.on_axis k lt).from_low;
      to_high = λ k lt. to_high s (highs r k) (coordinate b.high k) (x k) (wide k lt).above (i.on_axis k lt).to_high;
    }

same_axis : (k axis : ℕ) → (k == axis) ≡ true → k ≡ axis
same_axis k axis e = grind (arith, nat_tests)

-- a place of a range that lies on another stretch of an axis
with_on : (r all : Range) (axis : ℕ) (w : Stretch) → IsWith r axis w all → (s : ℕ) (x : ℕ → ℤ) → IsIn r s x → IsOn w s (x axis) → IsIn all s x
with_on r all axis w is s x i on = record { on_axis = λ k lt. subst (λ (v : Stretch). IsOn v s (x k)) (sym (is.same k lt)) (by_test k lt (k == axis) refl) }
  where
    by_test : (k : ℕ) → k < 3 → (t : Bool) → (k == axis) ≡ t → IsOn (if t then w else stretch r k) s (x k)
    by_test k lt true e = subst (λ (j : ℕ). IsOn w s (x j)) (sym (same_axis k axis e)) on
    by_test k lt false e = i.on_axis k lt

pub below_in : (r all : Range) (axis : ℕ) (at : ℤ) → axis < 3 → IsWith r axis (record { low = lows r axis; high = at; open_low = (stretch r axis).open_low; open_high = true }) all
    → (s : ℕ) (x : ℕ → ℤ) → IsIn r s x → x axis <ℤ (pos s *ℤ at) → IsIn all s x
below_in r all axis at lt is s x i h = with_on r all axis _ is s x i (record {
  from_low = (i.on_axis axis lt).from_low;
  to_high = omega (arith, ints);
  off_low = (i.on_axis axis lt).off_low;
  off_high = λ _. h;
})

pub above_in : (r all : Range) (axis : ℕ) (at : ℤ) → axis < 3 → IsWith r axis (record { low = at; high = highs r axis; open_low = true; open_high = (stretch r axis).open_high }) all
    → (s : ℕ) (x : ℕ → ℤ) → IsIn r s x → (pos s *ℤ at) <ℤ x axis → IsIn all s x
above_in r all axis at lt is s x i h = with_on r all axis _ is s x i (record {
  from_low = omega (arith, ints);
  to_high = (i.on_axis axis lt).to_high;
  off_low = λ _. h;
  off_high = (i.on_axis axis lt).off_high;
})

-- a stretch without length that is open at an end
pub void_low : (w : Stretch) (s : ℕ) (z : ℤ) → w.high ≤ℤ w.low → w.open_low ≡ true → IsOn w s z → ⊥
void_low w s z le e on = omega (arith, ints, up_scaled s w.high w.low le, on.off_low e, on.to_high)

pub void_high : (w : Stretch) (s : ℕ) (z : ℤ) → w.high ≤ℤ w.low → w.open_high ≡ true → IsOn w s z → ⊥
void_high w s z le e on = omega (arith, ints, up_scaled s w.high w.low le, on.off_high e, on.from_low)
