-- What a writer took.
use Rattle.std.specs.Prelude.{ℕ, ◌<◌, List, length, take, Option, Result, Ok, Err}
use Rattle.std.specs.Io.KnownBytes.{Appends}

-- the writer took a front of these bytes that is not all of them, and nothing else
abbrev pub AppendsFront : Option (List ℕ) → Option (List ℕ) → List ℕ → Type 0
AppendsFront old new bytes = (k : ℕ) × (k < length bytes) × Appends old new (take k bytes)

-- a call wrote all of these bytes, or failed and wrote a front of them that is not all
abbrev pub Wrote : {A E : Type 0} → Option (List ℕ) → Option (List ℕ) → List ℕ → Result A E → Type 0
Wrote old new bytes (Ok done) = Appends old new bytes
Wrote old new bytes (Err e) = AppendsFront old new bytes
