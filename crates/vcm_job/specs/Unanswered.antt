-- Why a command came to no whole answer, in the same way for all of them. `refused` says of an input what refuses it.
use Rattle.std.specs.Prelude.{ℕ, ◌<◌, List, length, Option, IfSome}
use Rattle.std.specs.Io.KnownBytes.{Keeps}
use Rattle.vcm_job.specs.declared.fault.Fault.{Fault}
use Rattle.vcm_job.specs.declared.fault.Fault.TheVariants.{Refused, NoMemory, Memory, Read, Write, TooLong}
use Rattle.vcm_job.specs.Reading.{most_bytes, ReadsAtMost}

-- of one that writes nothing: its input is refused, or memory was; or the input, before and after reading it, wasn't read whole
abbrev pub IsUnanswered : {R : Type 0} → (List ℕ → R → Type 0) → Option (List ℕ) → Option (List ℕ) → Fault R → Type 0
IsUnanswered refused before after (Refused r) = IfSome before (λ input. refused input r)
IsUnanswered refused before after NoMemory = Unit {0}
IsUnanswered refused before after Read = ReadsAtMost most_bytes before after
IsUnanswered refused before after TooLong = IfSome before (λ input. most_bytes < length input)
IsUnanswered refused before after _ = ⊥

-- of one that writes: so, and nothing was written; or memory was refused after so many steps of a run, or a write failed, and `halted` or `cut` tells
-- what was written
abbrev pub IsUnwritten : {R : Type 0} → (List ℕ → R → Type 0) → (halted cut : ℕ → Option (List ℕ) → Option (List ℕ) → Type 0) → Option (List ℕ)
    → Option (List ℕ) → Fault R → Option (List ℕ) → Option (List ℕ) → Type 0
IsUnwritten refused halted cut before after (Memory done) old new = halted done old new
IsUnwritten refused halted cut before after (Write done) old new = cut done old new
IsUnwritten refused halted cut before after f old new = IsUnanswered refused before after f × Keeps old new

-- a command without a run is never refused memory after some steps
abbrev pub NeverHalts : ℕ → Option (List ℕ) → Option (List ℕ) → Type 0
NeverHalts done old new = ⊥
