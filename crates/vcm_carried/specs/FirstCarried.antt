-- The first contact of a carried box, computed: the box meets a block where the centre of the tip lies in the spread block.
use Rattle.std.specs.Prelude.{ℕ, zero, suc, ℤ, Bool, true, false, List, Option, Some, None, option_map, if◌then◌else◌}
use Rattle.vcm_spec.specs.declared.workpiece.Block3.{Block3}
use Rattle.vcm_spec.specs.FirstContact.{Fraction, Entered, is_not_after, entry, first_entered, hit_of}
use Rattle.vcm_motion.specs.Places.{point_on_way}
use Rattle.vcm_carried.specs.declared.contact.Contact.{Contact}
use Rattle.vcm_carried.specs.Carried.{spread}

-- a fraction, if no more than that was gone
abbrev pub if_gone : Fraction → Option Fraction → Option Fraction
if_gone gone None = None
if_gone gone (Some f) = if is_not_after f gone then Some f else None

-- a fraction, if it isn't the start
abbrev pub if_later : Option Fraction → Option Fraction
if_later None = None
if_later (Some f) = elim f.num [ zero ↦ None | suc n ↦ Some f ]

-- the least fraction at which a block counts
abbrev pub box_entry : Bool → Fraction → Block3 → (ℕ → ℤ) → (ℕ → ℤ) → Block3 → Option Fraction
box_entry true gone box x y block = if_gone gone (entry x y (spread box block))
box_entry false gone box x y block = if_later (if_gone gone (entry x y (spread box block)))

-- what is told of a block that is entered
abbrev pub contact_at : (ℕ → ℤ) → (ℕ → ℤ) → Entered → Contact
contact_at x y e = record { hit = hit_of e; at = point_on_way e.at x y }

-- the first contact of the box on the way from the place x to the place y, of which this fraction was gone
abbrev pub box_contact : Bool → Fraction → Block3 → (ℕ → ℤ) → (ℕ → ℤ) → List Block3 → Option Contact
box_contact with_start gone box x y blocks = option_map (contact_at x y) (first_entered (box_entry with_start gone box x y) 1 blocks)
