-- Coordinates of grown blocks, as the code reads them.
use Rattle.std.proofs.Common.{◌≡◌, ℕ, ◌<◌, ◌≤◌, ℤ, pos, ◌+ℤ◌, ◌-ℤ◌, to_z, of_z, w64, arith, FitsSigned, true, refl}
use Rattle.std.proofs.lemmas.Int.{ints, clamps, to_z-of_z}
use Rattle.std.specs.Int.{int_min, int_max}
use Rattle.vcm_num.specs.Point.{IsNear, coordinate}
use Rattle.vcm_num.proofs.PointLemmas.{near_read}
use Rattle.vcm_spec.specs.declared.workpiece.Block3.{Block3}
use Rattle.vcm_spec.specs.Workpiece.{grown, is_block}
use Rattle.vcm_spec.proofs.Entries.{below_three}
use Rattle.vcm_motion.specs.inner.Boxes.{IsWide, IsWideBlock}
use Rattle.vcm_motion.proofs.Inside.{low_reachable, high_reachable}

pub near_wide : (z : ℤ) → IsNear z → IsWide z
near_wide z h = let a = h.from_below in let b = h.from_above in record { from_below = omega (arith, ints); from_above = omega (arith, ints) }

wide_fits : (z : ℤ) → IsWide z → FitsSigned w64 z
wide_fits z h = omega (arith, ints)

pub wide_read : (z : ℤ) → IsWide z → to_z w64 (of_z w64 z) ≡ z
wide_read z h = to_z-of_z w64 z (wide_fits z h)

pub wide_again : (z : ℤ) → IsWide z → IsWide (to_z w64 (of_z w64 z))
wide_again z h = rw (wide_read z h) h

pub near_wide_again : (z : ℤ) → IsNear z → IsWide (to_z w64 (of_z w64 z))
near_wide_again z h = wide_again z (near_wide z h)

pub lowered : (h : ℕ) → h ≤ 50000 → (z : ℤ) → IsNear z → IsWide (z -ℤ pos h)
lowered h few z n = let a = n.from_below in let b = n.from_above in record { from_below = omega (arith, ints); from_above = omega (arith, ints) }

pub raised : (h : ℕ) → h ≤ 50000 → (z : ℤ) → IsNear z → IsWide (z +ℤ pos h)
raised h few z n = let a = n.from_below in let b = n.from_above in record { from_below = omega (arith, ints); from_above = omega (arith, ints) }

pub grown_wide : (h : ℕ) (block : Block3) → h ≤ 50000 → is_block block ≡ true → IsWideBlock (grown h block)
grown_wide h block few valid =
    let low = low_reachable block valid in
    let high = high_reachable block valid in
    record {
      low = below_three (λ k. IsWide (coordinate (grown h block).low k)) (lowered h few _ (low 0 (omega arith))) (lowered h few _ (low 1 (omega arith))) (lowered h few _ (low 2 (omega arith)));
      high = below_three (λ k. IsWide (coordinate (grown h block).high k)) (raised h few _ (high 0 (omega arith))) (raised h few _ (high 1 (omega arith))) (raised h few _ (high 2 (omega arith)));
    }

-- the lesser and the greater of two
pub min_near : (p q : ℤ) → IsNear p → IsNear q → IsNear (int_min p q)
min_near p q h k =
    let a = h.from_below in
    let b = h.from_above in
    let c = k.from_below in
    let d = k.from_above in
    record { from_below = omega (arith, ints, clamps); from_above = omega (arith, ints, clamps) }

pub max_near : (p q : ℤ) → IsNear p → IsNear q → IsNear (int_max p q)
max_near p q h k =
    let a = h.from_below in
    let b = h.from_above in
    let c = k.from_below in
    let d = k.from_above in
    record { from_below = omega (arith, ints, clamps); from_above = omega (arith, ints, clamps) }

-- a coordinate that is near and a length, as the code adds them
module _ (h : ℕ) (few : h ≤ 50000) (z r : ℤ) (n : IsNear z) (by : r ≡ pos h) where
  length_read : to_z w64 (of_z w64 r) ≡ pos h
  length_read = rw by (wide_read (pos h) (record { from_below = omega (arith, ints); from_above = omega (arith, ints) }))

  pub lower_fits : FitsSigned w64 (to_z w64 (of_z w64 z) -ℤ to_z w64 (of_z w64 r))
  lower_fits = rw (near_read z n, length_read) (wide_fits (z -ℤ pos h) (lowered h few z n))

  pub raise_fits : FitsSigned w64 (to_z w64 (of_z w64 z) +ℤ to_z w64 (of_z w64 r))
  raise_fits = rw (near_read z n, length_read) (wide_fits (z +ℤ pos h) (raised h few z n))

  pub lower_is : to_z w64 (of_z w64 (to_z w64 (of_z w64 z) -ℤ to_z w64 (of_z w64 r))) ≡ z -ℤ pos h
  lower_is = rw (near_read z n, length_read) (wide_read (z -ℤ pos h) (lowered h few z n))

  pub raise_is : to_z w64 (of_z w64 (to_z w64 (of_z w64 z) +ℤ to_z w64 (of_z w64 r))) ≡ z +ℤ pos h
  raise_is = rw (near_read z n, length_read) (wide_read (z +ℤ pos h) (raised h few z n))

-- the corners of a grown block, on one axis
pub grown_low : (h : ℕ) (block : Block3) (k : ℕ) → k < 3 → coordinate (grown h block).low k ≡ coordinate block.low k -ℤ pos h
grown_low h block = below_three (λ k. coordinate (grown h block).low k ≡ coordinate block.low k -ℤ pos h) refl refl refl

pub grown_high : (h : ℕ) (block : Block3) (k : ℕ) → k < 3 → coordinate (grown h block).high k ≡ coordinate block.high k +ℤ pos h
grown_high h block = below_three (λ k. coordinate (grown h block).high k ≡ coordinate block.high k +ℤ pos h) refl refl refl
