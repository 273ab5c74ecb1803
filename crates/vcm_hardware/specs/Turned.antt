-- How the head is turned, and where places lie then.
use Rattle.std.specs.Prelude.{ℕ, suc, ℤ, pos, ◌-ℤ◌, int_le, List, [], ◌∷◌, get_or, unsigned_abs, if◌then◌else◌}
use Rattle.std.specs.Int.{int_rem_euclid}
use Rattle.vcm_hardware.specs.declared.interval.Ratio.{Ratio}
use Rattle.vcm_hardware.specs.declared.interval.Interval.{Interval}
use Rattle.vcm_hardware.specs.declared.angle.Along.{Along}
use Rattle.vcm_hardware.specs.declared.angle.Along.TheVariants.{X, Y, Z}
use Rattle.vcm_hardware.specs.declared.angle.Direction.{Direction}
use Rattle.vcm_hardware.specs.declared.angle.Spot.{Spot}
use Rattle.vcm_hardware.specs.declared.angle.Turning.{Turning}
use Rattle.vcm_hardware.specs.declared.description.Place.{Place}
use Rattle.vcm_hardware.specs.Intervals.{product, negative, scaled, sum_of}

-- what a number of ten-millionths lies between that isn't whole: it, and the next one
abbrev pub from : ℕ → Ratio
from n = record { low = pos n; high = pos (suc n) }

-- just this number
abbrev pub just : ℕ → Ratio
just n = record { low = pos n; high = pos n }

-- the cosine of so many steps of 7.5 degrees, up to a quarter turn
abbrev pub cosines : List Ratio
cosines =
    just 10000000 ∷ from 9914448 ∷ from 9659258 ∷ from 9238795 ∷ from 8660254 ∷ from 7933533 ∷ from 7071067 ∷ from 6087614 ∷ from 5000000 ∷ from 3826834
    ∷ from 2588190 ∷ from 1305261 ∷ just 0 ∷ []

abbrev pub quarter_cosine : ℕ → Ratio
quarter_cosine k = get_or cosines k (just 0)

-- that of any number of steps: of k modulo a whole turn of 48
abbrev pub cosine_within : ℤ → Ratio
cosine_within k =
    if int_le k (pos 12) then quarter_cosine (unsigned_abs k)
    else if int_le k (pos 24) then negative (quarter_cosine (unsigned_abs (pos 24 -ℤ k)))
    else if int_le k (pos 36) then negative (quarter_cosine (unsigned_abs (k -ℤ pos 24)))
    else quarter_cosine (unsigned_abs (pos 48 -ℤ k))

abbrev pub cosine : ℤ → Ratio
cosine k = cosine_within (int_rem_euclid k (pos 48))

-- the sine
abbrev pub sine : ℤ → Ratio
sine k = cosine (pos 12 -ℤ k)

-- a direction, a place and what is turned on an axis
abbrev pub towards : Direction → Along → Ratio
towards d X = d.x
towards d Y = d.y
towards d Z = d.z

abbrev pub coordinate_on : Spot → Along → Interval
coordinate_on s X = s.x
coordinate_on s Y = s.y
coordinate_on s Z = s.z

abbrev pub column : Turning → Along → Direction
column t X = t.x
column t Y = t.y
column t Z = t.z

-- where the axes point to, A and B being turned by so many steps
abbrev pub turning_by : ℤ → ℤ → Turning
turning_by a b = record {
  x = record { x = cosine b; y = sine b; z = just 0 };
  y = record { x = negative (product (sine b) (cosine a)); y = product (cosine b) (cosine a); z = negative (sine a) };
  z = record { x = negative (product (sine b) (sine a)); y = product (cosine b) (sine a); z = cosine a };
}

-- a row of the axes times a way
abbrev pub row : Ratio → Ratio → Ratio → ℤ → ℤ → ℤ → Interval
row x y z a b c = sum_of (scaled a x) (scaled b y) (scaled c z)

-- where a place lies once the head is turned, seen from the place of the tip
abbrev pub turned : Turning → Place → Place → Spot
turned t at tip = record {
  x = row t.x.x t.y.x t.z.x (at.x -ℤ tip.x) (at.y -ℤ tip.y) (at.z -ℤ tip.z);
  y = row t.x.y t.y.y t.z.y (at.x -ℤ tip.x) (at.y -ℤ tip.y) (at.z -ℤ tip.z);
  z = row t.x.z t.y.z t.z.z (at.x -ℤ tip.x) (at.y -ℤ tip.y) (at.z -ℤ tip.z);
}
