-- Where the tip is free of a block: over it, and past its four sides.
use Rattle.std.specs.Prelude.{ℕ, ℤ, pos, ◌+ℤ◌, ◌-ℤ◌, ◌≤ℤ◌, int_le, if◌then◌else◌, Option, Some, None}
use Rattle.std.specs.Int.{int_min, int_max}
use Rattle.vcm_num.specs.declared.point.Point.{Point}
use Rattle.vcm_num.specs.Point.{coordinate}
use Rattle.vcm_spec.specs.declared.workpiece.Block3.{Block3}
use Rattle.vcm_spec.specs.declared.workpiece.Bounds.{Bounds}
use Rattle.vcm_cause.specs.declared.sides.Side.{Side}
use Rattle.vcm_cause.specs.declared.sides.Side.TheVariants.{LowX, HighX, LowY, HighY}
use Rattle.vcm_cause.specs.declared.sides.FreeSide.{FreeSide}

-- how far the centre of the tip stays from a face: half the width of the tip, and one micrometre
abbrev pub gap : ℕ → ℤ
gap tip = pos tip +ℤ pos 1

-- so far below a face, if it isn't below the limit
abbrev pub edge_below : ℤ → ℕ → ℤ → Option ℤ
edge_below face tip limit = if int_le limit (face -ℤ gap tip) then Some (face -ℤ gap tip) else None

-- so far above a face, if it isn't above the limit
abbrev pub edge_above : ℤ → ℕ → ℤ → Option ℤ
edge_above face tip limit = if int_le (face +ℤ gap tip) limit then Some (face +ℤ gap tip) else None

-- over the block
abbrev pub over : Bounds → Block3 → Option ℤ
over l block = edge_above (coordinate block.high 2) l.tip (coordinate l.high 2)

-- on a side of it
abbrev pub edge : Bounds → Block3 → Side → Option ℤ
edge l block LowX = edge_below (coordinate block.low 0) l.tip (coordinate l.low 0)
edge l block HighX = edge_above (coordinate block.high 0) l.tip (coordinate l.high 0)
edge l block LowY = edge_below (coordinate block.low 1) l.tip (coordinate l.low 1)
edge l block HighY = edge_above (coordinate block.high 1) l.tip (coordinate l.high 1)

-- a side with its edge
abbrev pub past : Side → Option ℤ → Option FreeSide
past side None = None
past side (Some z) = Some (record { side = side; at = z })

-- a side of the block, if its edge lies within the limits
abbrev pub offered : Bounds → Block3 → Side → Option FreeSide
offered l block side = past side (edge l block side)

-- how far the way from a to b has to be shifted to lie past an edge
abbrev pub shift_by : Side → Point → Point → ℤ → ℤ
shift_by LowX a b z = int_max (coordinate a 0) (coordinate b 0) -ℤ z
shift_by HighX a b z = z -ℤ int_min (coordinate a 0) (coordinate b 0)
shift_by LowY a b z = int_max (coordinate a 1) (coordinate b 1) -ℤ z
shift_by HighY a b z = z -ℤ int_min (coordinate a 1) (coordinate b 1)

abbrev pub shift : Point → Point → FreeSide → ℤ
shift a b s = shift_by s.side a b s.at

-- that one of two sides to which the way has the less far; the first, where it has as far to both
abbrev pub nearer : Point → Point → Option FreeSide → Option FreeSide → Option FreeSide
nearer a b None other = other
nearer a b (Some s) None = Some s
nearer a b (Some s) (Some t) = if int_le (shift a b s) (shift a b t) then Some s else Some t

-- the side of the block to which the way from a to b has to be shifted the least far, of those within the limits; of those equally far the first of low x,
-- high x, low y, high y
abbrev pub beside : Bounds → Block3 → Point → Point → Option FreeSide
beside l block a b =
    nearer a b (offered l block LowX) (nearer a b (offered l block HighX) (nearer a b (offered l block LowY) (offered l block HighY)))

-- a place lies at the edge of a side, or past it
abbrev pub LiesPast : Side → ℤ → (ℕ → ℤ) → Type 0
LiesPast LowX z x = x 0 ≤ℤ z
LiesPast HighX z x = z ≤ℤ x 0
LiesPast LowY z x = x 1 ≤ℤ z
LiesPast HighY z x = z ≤ℤ x 1
