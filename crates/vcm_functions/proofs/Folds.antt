-- Expressions that stay.
use Rattle.std.proofs.Common.{◌≡◌, ℕ, false, List, refl}
use Rattle.vcm_functions.specs.Folded.{has_function, folded}

-- an expression in which no word of a function stands before a parenthesis stays as it is written
pub stays : (bytes : List ℕ) → has_function bytes ≡ false → folded bytes ≡ bytes
stays bytes e = rw e refl
