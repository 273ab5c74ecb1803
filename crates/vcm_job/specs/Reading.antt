-- Reading an input whole, up to a limit.
use Rattle.std.specs.Prelude.{ℕ, ◌+◌, ◌<◌, ◌≤◌, List, length, Option, IfSome}
use Rattle.vcm_job.specs.declared.reading.ReadFault.{ReadFault}
use Rattle.vcm_job.specs.declared.reading.ReadFault.TheVariants.{NoMemory, Device, TooLong}

-- the most bytes of an input
unfoldable pub most_bytes : ℕ
most_bytes = 33554432

-- where the input is known, at most so many bytes of it were read
abbrev pub ReadsAtMost : ℕ → Option (List ℕ) → Option (List ℕ) → Type 0
ReadsAtMost most before after = IfSome before (λ input. IfSome after (λ rest. length input ≤ length rest + most))

-- at most one byte more than an input may have was read
abbrev pub ReadsLittle : Option (List ℕ) → Option (List ℕ) → Type 0
ReadsLittle before after = ReadsAtMost (most_bytes + 1) before after

-- why not all of an input was read, where it is known: memory was refused; or the reader failed, when no more was read than an input may
-- have; or the input is longer
abbrev pub IsReadFault : Option (List ℕ) → Option (List ℕ) → ReadFault → Type 0
IsReadFault before after NoMemory = Unit {0}
IsReadFault before after Device = ReadsAtMost most_bytes before after
IsReadFault before after TooLong = IfSome before (λ input. most_bytes < length input)
