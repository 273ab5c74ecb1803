-- What part files and texts of programs give that are read whole.
use Rattle.std.specs.Prelude.{◌≡◌, ℕ, ◌⊎◌, List, Option, Ok, Err}
use Rattle.vcm_part.specs.declared.fault.PartFault.{PartFault}
use Rattle.vcm_part.specs.declared.fault.PartCode.TheVariants as part_codes
use Rattle.vcm_part.specs.Faults.{fault}
use Rattle.vcm_part.specs.PartFile.{part_of}
use Rattle.vcm_spec.specs.Workpiece.{Workpiece}
use Rattle.vcm_run.specs.declared.run.Refusal.{Refusal}
use Rattle.vcm_run.specs.Programs.{IsRefusal}
use Rattle.vcm_job.specs.declared.fault.Fault.{Fault}
use Rattle.vcm_job.specs.Unanswered.{IsUnanswered}

-- the file gives this workpiece
abbrev pub IsPartIn : List ℕ → Workpiece → Type 0
IsPartIn file part = part_of file ≡ Ok part

-- what refuses a part file, or memory was refused
abbrev pub IsPartRefusal : List ℕ → PartFault → Type 0
IsPartRefusal file e = (e ≡ fault part_codes.NoMemory 0) ⊎ (part_of file ≡ Err e)

-- why a part file gives no workpiece: it is refused, or memory was refused; or it wasn't read whole
abbrev pub IsNoPart : Option (List ℕ) → Option (List ℕ) → Fault PartFault → Type 0
IsNoPart before after f = IsUnanswered IsPartRefusal before after f

-- why no image was built: the text is refused, or memory was refused; or it wasn't read whole
abbrev pub IsNotBuilt : Option (List ℕ) → Option (List ℕ) → Fault Refusal → Type 0
IsNotBuilt before after f = IsUnanswered IsRefusal before after f
