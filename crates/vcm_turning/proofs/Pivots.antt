-- The pivot stays where the head turns.
use Rattle.std.proofs.Common.{◌≡◌, zero, suc, ℤ, ◌+ℤ◌, ◌-ℤ◌, arith}
use Rattle.std.proofs.lemmas.Int.{ints}
use Rattle.vcm_num.specs.Point.{coordinate}
use Rattle.vcm_turning.specs.Laws.{PivotStays}

back : (x y z : ℤ) → (((x +ℤ y) -ℤ z) +ℤ z) ≡ (x +ℤ y)
back x y z = omega (arith, ints)

pub pivot_is_kept : PivotStays
pivot_is_kept at old new zero h = back (coordinate at 0) (coordinate old 0) (coordinate new 0)
pivot_is_kept at old new (suc zero) h = back (coordinate at 1) (coordinate old 1) (coordinate new 1)
pivot_is_kept at old new (suc (suc zero)) h = back (coordinate at 2) (coordinate old 2) (coordinate new 2)
pivot_is_kept at old new (suc (suc (suc k))) h = absurd (omega arith)
