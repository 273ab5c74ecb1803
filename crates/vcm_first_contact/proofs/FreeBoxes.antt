-- Boxes on ways past the edges of a block don't meet it.
use Rattle.std.proofs.Common.{ℕ, ℤ}
use Rattle.vcm_spec.specs.declared.workpiece.Block3.{Block3}
use Rattle.vcm_spec.specs.Contact.{TipMeets}
use Rattle.vcm_spec.proofs.Tips.{points_meet}
use Rattle.vcm_carried.specs.Carried.{BoxMeets, spread}
use Rattle.vcm_carried.proofs.Boxes.{box_meets}
use Rattle.vcm_cause.proofs.Freed.{over_is_free, beside_is_free}
use Rattle.vcm_first_contact.specs.Laws.{OverIsFreeOfBoxes, BesideIsFreeOfBoxes}
use Rattle.vcm_first_contact.specs.Lines.{as_point}

-- where a box meets a block, a tip without extent meets the block that is grown by the box
point_meets : (box block : Block3) (x y : ℕ → ℤ) (n d : ℕ) → BoxMeets box x y block n d → TipMeets 0 x y (spread box block) n d
point_meets box block x y n d m = (points_meet (spread box block) x y n d).1 (box_meets box x y block n d m)

pub over_free : OverIsFreeOfBoxes
over_free most box block sides valid l z e x y zx zy n d m = over_is_free (as_point l) (spread box block) z e x y zx zy n d (point_meets box block x y n d m)

pub beside_free : BesideIsFreeOfBoxes
beside_free most box block sides valid l a b s e x y px py n d m = beside_is_free (as_point l) (spread box block) a b s e x y px py n d (point_meets box block x y n d m)
