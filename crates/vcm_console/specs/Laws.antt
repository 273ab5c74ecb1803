-- Statements about the reading of an input. Each is the contract of a law in src/laws.rt.
use Rattle.std.specs.Prelude.{◌≡◌, ◌≢◌, ℕ, List, Option, Some, Result, Err}
use Rattle.vcm_console.specs.declared.line.RawLine.{RawLine}
use Rattle.vcm_console.specs.declared.reply.ServeFault.{ServeFault}
use Rattle.vcm_console.specs.declared.reply.ServeFault.TheVariants.{Read}
use Rattle.vcm_console.specs.Reading.{IsNext, ReadsLine}

-- two answers to one input, neither a fault of the device, are the same byte, or the end, and leave the same of it
abbrev pub BytesAreOne : Type 0
BytesAreOne =
    (input : List ℕ) (after behind : Option (List ℕ)) (r s : Result (Option ℕ) ServeFault) → IsNext (Some input) after r
    → IsNext (Some input) behind s → r ≢ Err Read → s ≢ Err Read → (r ≡ s) × (after ≡ behind)

-- two answers to one input that let as many bytes be read, neither a fault of the device, are the same line, or the end, or that there is too
-- much, and leave the same of it
abbrev pub LinesAreOne : Type 0
LinesAreOne =
    (left : ℕ) (input : List ℕ) (after behind : Option (List ℕ)) (r s : Result (Option RawLine) ServeFault) → ReadsLine left input after r
    → ReadsLine left input behind s → r ≢ Err Read → s ≢ Err Read → (r ≡ s) × (after ≡ behind)
