-- How large numbers become: inside, where no clause of a caller speaks of it.
use Rattle.std.specs.Prelude.{ℕ, ◌≤◌, ℤ, unsigned_abs, IfSome}
use Rattle.vcm_hardware.specs.declared.interval.Ratio.{Ratio}
use Rattle.vcm_hardware.specs.declared.interval.Interval.{Interval}
use Rattle.vcm_hardware.specs.declared.angle.Spot.{Spot}
use Rattle.vcm_hardware.specs.declared.cylinder.Seen.{Seen}
use Rattle.vcm_hardware.specs.declared.cylinder.Range.{Range}
use Rattle.vcm_hardware.specs.declared.cylinder.Leaning.{Leaning}
use Rattle.vcm_hardware.specs.declared.cylinder.Side.{Side}
use Rattle.vcm_hardware.specs.declared.cylinder.Slabs.{Slabs}
use Rattle.vcm_hardware.specs.declared.swing.Reach.{Reach}
use Rattle.vcm_hardware.specs.declared.swing.Swing.{Swing}

-- the ends of a sine, a cosine or a product of them are at most 1
pub record IsUnit (x : Ratio) : Type 0 where
  pub low : unsigned_abs x.low ≤ 10000000
  pub high : unsigned_abs x.high ≤ 10000000

-- the ends of an interval are at most so much
pub record IsWithin (n : ℕ) (x : Interval) : Type 0 where
  pub low : unsigned_abs x.low ≤ n
  pub high : unsigned_abs x.high ≤ n

-- three times 2 ^ 63, as three products of 64 bits give
abbrev pub IsFar : Interval → Type 0
IsFar x = IsWithin 27670116110564327424 x

-- those of a place on each axis
pub record AreFar (s : Spot) : Type 0 where
  pub x : IsFar s.x
  pub y : IsFar s.y
  pub z : IsFar s.z

-- both ends of a part, seen from the tip
pub record AreSeen (s : Seen) : Type 0 where
  pub from : AreFar s.from
  pub to : AreFar s.to

-- a range of whole micrometres that comes of such places
pub record IsShort (r : Range) : Type 0 where
  pub low : unsigned_abs r.low ≤ 2769159094706
  pub high : unsigned_abs r.high ≤ 2769159094706

-- the quotient of two ratios
abbrev pub IsSlope : ℤ → Type 0
IsSlope z = unsigned_abs z ≤ 21474836480000001

pub record IsLeaning (l : Leaning) : Type 0 where
  pub slope : IsSlope l.slope
  pub low : unsigned_abs l.low ≤ 200000000000000000000000000000
  pub high : unsigned_abs l.high ≤ 200000000000000000000000000000

pub record IsSide (s : Side) : Type 0 where
  pub range : IsShort s.range
  pub first : IfSome s.first (λ l. IsLeaning l)
  pub second : IfSome s.second (λ l. IsLeaning l)

pub record AreSlabs (c : Slabs) : Type 0 where
  pub range : IsShort c.range
  pub some : 1 ≤ c.count
  pub few : c.count ≤ 12000000000000000000001
  pub x : IsSide c.x
  pub y : IsSide c.y
  pub z : IsSide c.z

-- how far something reaches, at most
pub record IsReached (r : Reach) : Type 0 where
  pub far : unsigned_abs r.far ≤ 17179869184
  pub wide : unsigned_abs r.wide ≤ 17179869184
  pub high : unsigned_abs r.high ≤ 17179869184
  pub low : unsigned_abs r.low ≤ 17179869184

-- a swing
pub record IsSwing (w : Swing) : Type 0 where
  pub radius : unsigned_abs w.radius ≤ 17179869184
  pub top : unsigned_abs w.top ≤ 200000000000
