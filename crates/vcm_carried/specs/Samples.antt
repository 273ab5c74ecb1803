-- Worked examples: a block from (10, 10, 0) to (30, 30, 20), in millimetres, and one 10 mm above it.
use Rattle.std.specs.Prelude.{◌≡◌, refl, ℕ, pos, negsuc, true, false, List, Option, Some, None}
use Rattle.vcm_num.specs.declared.point.Point.{Point}
use Rattle.vcm_num.specs.Point.{point, coordinate}
use Rattle.vcm_spec.specs.declared.workpiece.Block3.{Block3}
use Rattle.vcm_spec.specs.Workpiece.{grown}
use Rattle.vcm_spec.specs.FirstContact.{fraction}
use Rattle.vcm_spec.specs.Samples.Parts.{at, between, one_block, two_floors, hit}
use Rattle.vcm_carried.specs.declared.contact.Contact.{Contact}
use Rattle.vcm_carried.specs.FirstCarried.{box_contact}
use Rattle.vcm_carried.specs.Laws.{cube}

-- what is told of the block n with these thousandths before it, at a point
abbrev told : ℕ → ℕ → Point → Option Contact
told n m p = Some (record { hit = hit n m; at = p })

-- the first contact on the way between two points, all of which was gone
abbrev met : Block3 → Point → Point → List Block3 → Option Contact
met box a b blocks = box_contact true (fraction 1 1) box (coordinate a) (coordinate b) blocks

-- a shaft that is 2 mm thick, from 1 mm above the centre of the tip
abbrev shaft : Block3
shaft = between (point (negsuc 999) (negsuc 999) (pos 1000)) (at 1000 1000 100000)

-- the centre of the tip goes into the block at 8/9 of its way
pub centre_meets : met (cube 0) (at 0 0 100000) (at 20000 20000 10000) one_block.blocks ≡ told 1 888 (at 17777 17777 20000)
centre_meets = refl

-- the shaft, which begins 1 mm higher, only later
pub shaft_meets : met shaft (at 0 0 100000) (at 20000 20000 10000) one_block.blocks ≡ told 1 900 (at 18000 18000 19000)
shaft_meets = refl

-- up to 8/9 of the way it meets none; with its sides moved out by 1 mm one, at that fraction
pub shaft_is_clear : box_contact true (fraction 8 9) shaft (coordinate (at 0 0 100000)) (coordinate (at 20000 20000 10000)) one_block.blocks ≡ None
shaft_is_clear = refl

pub wider_meets : box_contact true (fraction 8 9) (grown 1000 shaft) (coordinate (at 0 0 100000)) (coordinate (at 20000 20000 10000)) one_block.blocks ≡ told 1
    888 (at 17777 17777 20000)
wider_meets = refl

-- on a way along a face of the block the shaft touches it as it comes beside it; the same, a micrometre farther out, does not
pub along_touches : met shaft (at 9000 0 10000) (at 9000 20000 10000) one_block.blocks ≡ told 1 450 (at 9000 9000 10000)
along_touches = refl

pub along_is_clear : met shaft (at 8999 0 10000) (at 8999 20000 10000) one_block.blocks ≡ None
along_is_clear = refl

-- between two floors the shaft is in the upper one at the start: that is not entered, and on the way down the lower one is
pub upper_is_left : box_contact false (fraction 1 1) shaft (coordinate (at 20000 20000 25000)) (coordinate (at 20000 20000 15000)) two_floors.blocks ≡ told 1
    600 (at 20000 20000 19000)
upper_is_left = refl

-- where the start counts, the upper one is told
pub upper_counts : met shaft (at 20000 20000 25000) (at 20000 20000 15000) two_floors.blocks ≡ told 2 0 (at 20000 20000 25000)
upper_counts = refl
