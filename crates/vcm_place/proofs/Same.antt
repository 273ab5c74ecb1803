-- Two answers are one.
use Rattle.std.proofs.Common.{◌≡◌, ◌≢◌, Bool, List, Result, Ok, Err, inl, inr, sym, ap, ◌∙◌}
use Rattle.vcm_num.specs.declared.point.Point.{Point}
use Rattle.vcm_spec.specs.Workpiece.{Workpiece}
use Rattle.vcm_part.specs.declared.fault.PartCode.TheVariants.{NoMemory}
use Rattle.vcm_part.specs.declared.fault.PartFault.{PartFault}
use Rattle.vcm_part.specs.Faults.{fault}
use Rattle.vcm_place.specs.Placed.{placed_part, IsPlaced}

-- an answer that isn't want of memory is what the definition gives
placed_is : (place : Point) (fixtures : List Bool) (part : Workpiece) (r : Result Workpiece PartFault) → IsPlaced place fixtures part r → r ≢ Err (fault NoMemory 0)
    → placed_part place fixtures part ≡ r
placed_is place fixtures part (Ok placed) h n = h
placed_is place fixtures part (Err e) h n = elim h [ inl m ↦ absurd (n (ap (λ (x : PartFault). Err x) m)) | inr k ↦ k ]

pub same_placed : (place : Point) (fixtures : List Bool) (part : Workpiece) (r s : Result Workpiece PartFault) → IsPlaced place fixtures part r → IsPlaced place fixtures part s
    → r ≢ Err (fault NoMemory 0) → s ≢ Err (fault NoMemory 0) → r ≡ s
same_placed place fixtures part r s h k m n = sym (placed_is place fixtures part r h m) ∙ placed_is place fixtures part s k n
