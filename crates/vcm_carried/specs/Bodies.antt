-- Bodies: boxes that are fixed to the tip, and are tried as one.
use Rattle.std.specs.Prelude.{◌⊎◌, ℕ, ℤ, Bool, true, false, List, [], ◌∷◌, Option, Some, None, option_map}
use Rattle.vcm_spec.specs.declared.workpiece.Block3.{Block3}
use Rattle.vcm_spec.specs.FirstContact.{Fraction, entry, first_entered, lesser}
use Rattle.vcm_carried.specs.declared.contact.Contact.{Contact}
use Rattle.vcm_carried.specs.Carried.{BoxMeets, BoxMeetsBy, spread}
use Rattle.vcm_carried.specs.FirstCarried.{if_gone, if_later, contact_at}

-- this holds of a box of the body
abbrev pub OfSome : (Block3 → Type 0) → List Block3 → Type 0
OfSome P [] = ⊥
OfSome P (box ∷ boxes) = P box ⊎ OfSome P boxes

-- some point of a box of the body, carried to a/b of the way, of which no more was gone than this fraction, lies in the block
abbrev pub BodyMeetsBy : Fraction → List Block3 → (ℕ → ℤ) → (ℕ → ℤ) → Block3 → ℕ → ℕ → Type 0
BodyMeetsBy gone body x y block a b = OfSome (λ box. BoxMeetsBy gone box x y block a b) body

-- the same, where no box of the body meets the block at the start of the way: the body enters it
pub record BodyEnters (gone : Fraction) (body : List Block3) (x y : ℕ → ℤ) (block : Block3) (a b : ℕ) : Type 0 where
  pub meets : BodyMeetsBy gone body x y block a b
  pub outside : ¬ OfSome (λ box. BoxMeets box x y block 0 1) body

-- at which fractions a block counts: where the start counts too, all at which the body meets it, else those of a block that it enters
abbrev pub BodyCounts : Bool → Fraction → List Block3 → (ℕ → ℤ) → (ℕ → ℤ) → Block3 → ℕ → ℕ → Type 0
BodyCounts true gone body x y = BodyMeetsBy gone body x y
BodyCounts false gone body x y = BodyEnters gone body x y

-- ---- computed

-- the lesser of two fractions, of those that there are
abbrev pub lesser_of : Option Fraction → Option Fraction → Option Fraction
lesser_of None other = other
lesser_of (Some f) other = lesser f other

-- the least fraction at which a box of the body meets the block
abbrev pub least_entry : Fraction → List Block3 → (ℕ → ℤ) → (ℕ → ℤ) → Block3 → Option Fraction
least_entry gone [] x y block = None
least_entry gone (box ∷ boxes) x y block = lesser_of (if_gone gone (entry x y (spread box block))) (least_entry gone boxes x y block)

-- the least fraction at which a block counts
abbrev pub body_entry : Bool → Fraction → List Block3 → (ℕ → ℤ) → (ℕ → ℤ) → Block3 → Option Fraction
body_entry true gone body x y block = least_entry gone body x y block
body_entry false gone body x y block = if_later (least_entry gone body x y block)

-- the first contact of the body on the way from the place x to the place y, of which this fraction was gone
abbrev pub body_contact : Bool → Fraction → List Block3 → (ℕ → ℤ) → (ℕ → ℤ) → List Block3 → Option Contact
body_contact with_start gone body x y blocks = option_map (contact_at x y) (first_entered (body_entry with_start gone body x y) 1 blocks)
