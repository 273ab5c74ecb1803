-- Two answers to the same bytes are one.
use Rattle.std.proofs.Common.{◌≡◌, ◌≢◌, ℕ, List, Result, Ok, Err, inl, inr, sym, ap, ◌∙◌}
use Rattle.vcm_spec.specs.Workpiece.{Workpiece}
use Rattle.vcm_part.specs.declared.fault.PartCode.TheVariants.{NoMemory}
use Rattle.vcm_part.specs.declared.fault.PartFault.{PartFault}
use Rattle.vcm_part.specs.Faults.{fault}
use Rattle.vcm_part.specs.PartFile.{part_of, IsPartRead}

-- an answer that isn't want of memory is what the bytes give
pub read_is : (bytes : List ℕ) (r : Result Workpiece PartFault) → IsPartRead bytes r → r ≢ Err (fault NoMemory 0) → part_of bytes ≡ r
read_is bytes (Ok part) h n = h
read_is bytes (Err e) h n = elim h [ inl m ↦ absurd (n (ap (λ (x : PartFault). Err x) m)) | inr k ↦ k ]

pub same_read : (bytes : List ℕ) (r s : Result Workpiece PartFault) → IsPartRead bytes r → IsPartRead bytes s → r ≢ Err (fault NoMemory 0) → s ≢ Err (fault NoMemory 0) → r ≡ s
same_read bytes r s h k m n = sym (read_is bytes r h m) ∙ read_is bytes s k n
