-- Boxes that are fixed to the tip and carried along a straight way of its centre. Corners of a box are counted from the centre of the tip. A fraction
-- a/b of the
-- way is never divided: fractions are compared by their cross products.
use Rattle.std.specs.Prelude.{◌≡◌, ℕ, ℤ, pos, ◌*◌, ◌<◌, ◌≤◌, ◌+ℤ◌, ◌-ℤ◌, ◌*ℤ◌, ◌≤ℤ◌, Bool, true, false, List, Option, Some, None}
use Rattle.vcm_num.specs.Point.{point, coordinate}
use Rattle.vcm_spec.specs.declared.workpiece.Block3.{Block3}
use Rattle.vcm_spec.specs.Contact.{IsFraction, IsHit, IsClear}
use Rattle.vcm_spec.specs.FirstContact.{Fraction, fraction}
use Rattle.vcm_motion.specs.Places.{point_on_way}
use Rattle.vcm_carried.specs.declared.contact.Contact.{Contact}

-- on one axis the sides of a box lie at most so far from the centre of the tip, the lower one not above the upper one
pub record AreSides (most : ℕ) (l u : ℤ) : Type 0 where
  pub from_below : (pos 0 -ℤ pos most) ≤ℤ l
  pub order : l ≤ℤ u
  pub from_above : u ≤ℤ pos most

-- a box whose sides lie at most so far from the centre of the tip
abbrev pub IsBox : ℕ → Block3 → Type 0
IsBox most box = (k : ℕ) → k < 3 → AreSides most (coordinate box.low k) (coordinate box.high k)

-- on one axis c, in b-ths of a micrometre, lies from low to high, and from l to u beside the point that is a/b of the way from p to q
pub record IsCarried (l u low high p q : ℤ) (a b : ℕ) (c : ℤ) : Type 0 where
  pub above : (pos b *ℤ low) ≤ℤ c
  pub below : c ≤ℤ (pos b *ℤ high)
  pub from_low : (pos b *ℤ p +ℤ pos a *ℤ (q -ℤ p) +ℤ pos b *ℤ l) ≤ℤ c
  pub to_high : c ≤ℤ (pos b *ℤ p +ℤ pos a *ℤ (q -ℤ p) +ℤ pos b *ℤ u)

-- some point of the closed box, carried to a/b of the way from the place x to the place y, lies in the block
pub record BoxMeets (box : Block3) (x y : ℕ → ℤ) (block : Block3) (a b : ℕ) : Type 0 where
  pub fraction : IsFraction a b
  pub shared : ℕ → ℤ
  pub on_axis : (k : ℕ) → k < 3
      → IsCarried (coordinate box.low k) (coordinate box.high k) (coordinate block.low k) (coordinate block.high k) (x k) (y k) a b (shared k)

-- the same, where no more of the way was gone than this fraction
pub record BoxMeetsBy (gone : Fraction) (box : Block3) (x y : ℕ → ℤ) (block : Block3) (a b : ℕ) : Type 0 where
  pub meets : BoxMeets box x y block a b
  pub was_gone : a * gone.den ≤ gone.num * b

-- the same, where the box does not meet the block at the start of the way: it enters it
pub record BoxEnters (gone : Fraction) (box : Block3) (x y : ℕ → ℤ) (block : Block3) (a b : ℕ) : Type 0 where
  pub meets : BoxMeetsBy gone box x y block a b
  pub outside : ¬ BoxMeets box x y block 0 1

-- at which fractions a block counts: where the start counts too, all at which the box meets it, else those of a block that it enters
abbrev pub Counts : Bool → Fraction → Block3 → (ℕ → ℤ) → (ℕ → ℤ) → Block3 → ℕ → ℕ → Type 0
Counts true gone box x y = BoxMeetsBy gone box x y
Counts false gone box x y = BoxEnters gone box x y

-- M being true of some fractions, a/b is the least of them
pub record IsLeast (M : ℕ → ℕ → Type 0) (a b : ℕ) : Type 0 where
  pub meets : M a b
  pub least : (c d : ℕ) → M c d → a * d ≤ c * b

-- the block grown by the box reflected: where the centre of the tip stands as the box meets the block
abbrev pub spread : Block3 → Block3 → Block3
spread box block = record {
  low = point (coordinate block.low 0 -ℤ coordinate box.high 0) (coordinate block.low 1 -ℤ coordinate box.high 1)
      (coordinate block.low 2 -ℤ coordinate box.high 2);
  high = point (coordinate block.high 0 -ℤ coordinate box.low 0) (coordinate block.high 1 -ℤ coordinate box.low 1)
      (coordinate block.high 2 -ℤ coordinate box.low 2);
}

-- the contact tells the first block with the thousandths of the whole way before it, and where the centre of the tip stands there, cut off to
-- whole micrometres towards the start
pub record IsContactOn (blocks : List Block3) (M : Block3 → ℕ → ℕ → Type 0) (x y : ℕ → ℤ) (contact : Contact) : Type 0 where
  pub is_hit : IsHit blocks M contact.hit
  pub stands : contact.at ≡ point_on_way (fraction is_hit.a is_hit.b) x y

-- the answer: the first contact, or none
abbrev pub IsFirstContact : List Block3 → (Block3 → ℕ → ℕ → Type 0) → (ℕ → ℤ) → (ℕ → ℤ) → Option Contact → Type 0
IsFirstContact blocks M x y (Some contact) = IsContactOn blocks M x y contact
IsFirstContact blocks M x y None = IsClear blocks M
