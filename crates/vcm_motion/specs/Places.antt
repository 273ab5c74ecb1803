-- Where the centre of the tip stands when it first meets a block.
use Rattle.std.specs.Prelude.{ℕ, ◌*◌, ◌/◌, ℤ, pos, ◌+ℤ◌, ◌-ℤ◌, int_le, unsigned_abs, if◌then◌else◌, Option, option_map}
use Rattle.vcm_num.specs.declared.point.Point.{Point}
use Rattle.vcm_spec.specs.declared.workpiece.Block3.{Block3}
use Rattle.vcm_spec.specs.Workpiece.{grown}
use Rattle.vcm_spec.specs.FirstContact.{Fraction, entry}
use Rattle.vcm_spec.specs.Outcome.{point_of}

-- a length times a fraction, rounded down
abbrev pub share : Fraction → ℕ → ℕ
share f n = n * f.num / f.den

-- the coordinate at a fraction of the way from p to q, cut off towards p
abbrev pub part_of_way : Fraction → ℤ → ℤ → ℤ
part_of_way f p q =
    if int_le p q then p +ℤ pos (share f (unsigned_abs (q -ℤ p))) else p -ℤ pos (share f (unsigned_abs (q -ℤ p)))

-- the point at a fraction of the way from the place x to the place y
abbrev pub point_on_way : Fraction → (ℕ → ℤ) → (ℕ → ℤ) → Point
point_on_way f x y = point_of (λ k. part_of_way f (x k) (y k))

-- where the centre of the tip, h being half its width, stands when it first meets the block on the move from the place x to the place y
abbrev pub entry_point : ℕ → Block3 → (ℕ → ℤ) → (ℕ → ℤ) → Option Point
entry_point h block x y = option_map (λ f. point_on_way f x y) (entry x y (grown h block))
