-- Why a command came to no whole answer, once its input was read.
use Rattle.std.specs.Prelude.{ℕ, List, Option}
use Rattle.std.specs.Io.KnownBytes.{Keeps}
use Rattle.vcm_job.specs.declared.fault.Fault.{Fault}
use Rattle.vcm_job.specs.declared.fault.Fault.TheVariants.{Refused, NoMemory, Memory, Write}

-- the input is refused so, or memory was refused, before a run
abbrev pub IsRefusedAs : {R : Type 0} → (R → Type 0) → Fault R → Type 0
IsRefusedAs refused (Refused r) = refused r
IsRefusedAs refused NoMemory = Unit {0}
IsRefusedAs refused _ = ⊥

-- and then nothing was written; or memory was refused after so many steps of the run, or a write failed
abbrev pub IsCutAs : {R : Type 0} → (R → Type 0) → (halted cut : ℕ → Option (List ℕ) → Option (List ℕ) → Type 0) → Fault R → Option (List ℕ)
    → Option (List ℕ) → Type 0
IsCutAs refused halted cut (Memory done) old new = halted done old new
IsCutAs refused halted cut (Write done) old new = cut done old new
IsCutAs refused halted cut f old new = IsRefusedAs refused f × Keeps old new
