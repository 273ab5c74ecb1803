-- The steps of listing an input.
use Rattle.std.specs.Prelude.{ℕ, List}
use Rattle.vcm_image.specs.Whole.{code_at}
use Rattle.vcm_loader.specs.Loading.{LoadFault}
use Rattle.vcm_job.specs.declared.fault.Fault.{Fault}
use Rattle.vcm_job.specs.declared.fault.Fault.TheVariants.{Refused, NoMemory}
use Rattle.vcm_job.specs.declared.fault.InputRefusal.{InputRefusal}
use Rattle.vcm_job.specs.declared.fault.InputRefusal.TheVariants.{Image}

-- why an image has no listing: it is refused, or memory was refused
abbrev pub IsNotPrinted : List ℕ → Fault InputRefusal → Type 0
IsNotPrinted image (Refused (Image e)) = LoadFault (code_at image) e
IsNotPrinted image NoMemory = Unit {0}
IsNotPrinted image _ = ⊥
