-- Statements about expressions. Each is a clause of a law in src/laws.rt.
use Rattle.std.specs.Prelude.{◌≡◌, ℕ, false, List}
use Rattle.vcm_functions.specs.Folded.{has_function, folded}

-- an expression in which no word of a function stands before a parenthesis stays as it is written
abbrev pub OtherExpressionsStay : Type 0
OtherExpressionsStay = (bytes : List ℕ) → has_function bytes ≡ false → folded bytes ≡ bytes
