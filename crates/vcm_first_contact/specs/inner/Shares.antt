-- Fractions of a way, as the code has them.
use Rattle.std.specs.Prelude.{ℕ, ℤ, pos, negsuc, ◌<◌, ◌≤◌, ◌≤ℤ◌, ◌+ℤ◌, ◌-ℤ◌, ◌*ℤ◌, unsigned_abs, if◌then◌else◌, Bool, Option, IsTrue}
use Rattle.vcm_num.specs.Point.{coordinate, is_near}
use Rattle.vcm_spec.specs.FirstContact.{Fraction, fraction, is_between, meets, lesser}
use Rattle.vcm_first_contact.specs.declared.entry.Pass.{Pass}
use Rattle.vcm_first_contact.specs.declared.entry.Share.{Share}

-- a fraction, as the definitions have it
abbrev pub shared : Share → Fraction
shared s = record { num = s.num; den = s.den }

-- a face of a block that is grown by a box lies at most so far from 0
pub record IsSpreadFace (z : ℤ) : Type 0 where
  pub from_below : negsuc 1009999999 ≤ℤ z
  pub from_above : z ≤ℤ pos 1010000000

-- the way lies near 0, and so does the block, grown by a box
pub record IsNearPass (p : Pass) : Type 0 where
  pub from : IsTrue (is_near p.from)
  pub to : IsTrue (is_near p.to)
  pub low : (k : ℕ) → k < 3 → IsSpreadFace (coordinate p.block.low k)
  pub high : (k : ℕ) → k < 3 → IsSpreadFace (coordinate p.block.high k)

-- and the fraction has parts that are no greater than two such places lie apart
pub record IsSmall (p : Pass) (s : Share) : Type 0 where
  pub pass : IsNearPass p
  pub num : s.num ≤ 2010000000
  pub den : s.den ≤ 2010000000

-- a length on a way, its product with such a number, and a sum of two of these
abbrev pub IsShort : ℤ → Type 0
IsShort z = (negsuc 2009999999 ≤ℤ z) × (z ≤ℤ pos 2010000000)

abbrev pub IsProduct : ℤ → Type 0
IsProduct z = (negsuc 4040099999999999999 ≤ℤ z) × (z ≤ℤ pos 4040100000000000000)

abbrev pub IsPlace : ℤ → Type 0
IsPlace z = (negsuc 8080199999999999999 ≤ℤ z) × (z ≤ℤ pos 8080200000000000000)

-- where on this axis the point is at a fraction, in parts of a micrometre
abbrev pub place_on : Pass → ℕ → Fraction → ℤ
place_on p k f = pos f.den *ℤ coordinate p.from k +ℤ pos f.num *ℤ (coordinate p.to k -ℤ coordinate p.from k)

-- whether on this axis the point lies between the faces of the block at a fraction
abbrev pub between_on : Pass → ℕ → Fraction → Bool
between_on p k f = is_between (coordinate p.block.low k) (coordinate p.block.high k) (coordinate p.from k) (coordinate p.to k) f

-- where the coordinate of this axis reaches a face
abbrev pub reached_on : Pass → ℤ → ℕ → Fraction
reached_on p face k = fraction (unsigned_abs (face -ℤ coordinate p.from k)) (unsigned_abs (coordinate p.to k -ℤ coordinate p.from k))

-- the lesser of a fraction, if the point lies in the block there, and another one, if there is one
abbrev pub lesser_in : Pass → Fraction → Option Fraction → Option Fraction
lesser_in p f other = if meets (coordinate p.from) (coordinate p.to) p.block f then lesser f other else other

-- the least of another one and those at which it reaches the faces of this axis
abbrev pub least_on : Pass → ℕ → Option Fraction → Option Fraction
least_on p k other = lesser_in p (reached_on p (coordinate p.block.low k) k) (lesser_in p (reached_on p (coordinate p.block.high k) k) other)
