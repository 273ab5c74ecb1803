-- Statements about fields of expressions. Each is a clause of a law in src/laws.rt.
use Rattle.std.specs.Prelude.{◌≡◌, ℕ, false, List}
use Rattle.vcm_functions.specs.Folded.{has_function}
use Rattle.vcm_plain.specs.Fine.{has_fine}
use Rattle.vcm_plain.specs.Plain.{plain_expression}

-- a field in which no word of a function stands before a parenthesis, and no more than three digits behind a point, stays as it is written
abbrev pub CoarseFieldsStay : Type 0
CoarseFieldsStay = (field : List ℕ) → has_function field ≡ false → has_fine field ≡ false → plain_expression field ≡ field
