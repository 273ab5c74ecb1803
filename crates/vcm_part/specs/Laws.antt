-- What is proved of part files.
use Rattle.std.specs.Prelude.{◌≡◌, ◌≢◌, ℕ, List, Some, None, Result, Ok, Err}
use Rattle.std.specs.Str.{IsUtf8}
use Rattle.toml.specs.Data.{Members}
use Rattle.toml.specs.Parse.{parse_document}
use Rattle.vcm_spec.specs.Workpiece.{Workpiece, IsValid}
use Rattle.vcm_part.specs.declared.fault.PartCode.TheVariants.{NoMemory, NotToml}
use Rattle.vcm_part.specs.declared.fault.PartFault.{PartFault}
use Rattle.vcm_part.specs.Faults.{fault}
use Rattle.vcm_part.specs.PartFile.{part_of, part_of_table, IsPartRead}

-- bytes that are the UTF-8 of no text are refused
abbrev pub OtherBytesAreRefused : Type 0
OtherBytesAreRefused = (bytes : List ℕ) → ¬ (IsUtf8 bytes) → part_of bytes ≡ Err (fault NotToml 0)

-- a text that is no TOML is refused
abbrev pub OtherTextsAreRefused : Type 0
OtherTextsAreRefused = (bytes : List ℕ) → parse_document bytes ≡ None → part_of bytes ≡ Err (fault NotToml 0)

-- of a TOML text its table decides
abbrev pub TablesDecide : Type 0
TablesDecide = (bytes : List ℕ) (t : Members) → IsUtf8 bytes → parse_document bytes ≡ Some t → part_of bytes ≡ part_of_table t

-- what bytes give is a valid workpiece
abbrev pub PartsAreValid : Type 0
PartsAreValid = (bytes : List ℕ) (part : Workpiece) → part_of bytes ≡ Ok part → IsValid part

-- no bytes give want of memory
abbrev pub BytesTakeNoMemory : Type 0
BytesTakeNoMemory = (bytes : List ℕ) (e : PartFault) → part_of bytes ≡ Err e → e.code ≢ NoMemory

-- two answers to the same bytes are one, unless a growth of memory was refused
abbrev pub OneAnswer : Type 0
OneAnswer = (bytes : List ℕ) (r s : Result Workpiece PartFault) → IsPartRead bytes r → IsPartRead bytes s
    → r ≢ Err (fault NoMemory 0) → s ≢ Err (fault NoMemory 0) → r ≡ s
