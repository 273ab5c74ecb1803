-- Worked examples, computed.
use Rattle.std.specs.Prelude.{◌≡◌, refl, ℕ, List, [], ◌∷◌, codes}
use Rattle.std.specs.Fmt.{digits}
use Rattle.vcm_report.specs.Printed.{in_a_row}
use Rattle.vcm_naming.specs.Naming.{Line, plain, about, named_text}

-- of three blocks the second has a name
abbrev names : List (List ℕ)
names = [] ∷ codes "before bore 1" ∷ [] ∷ []

-- two lines name it, one a block without a name, one none
abbrev lines : List Line
lines = about 1 (codes "A\n") ∷ about 2 (codes "B\n") ∷ about 2 (codes "C\n") ∷ plain (codes "D\n") ∷ []

-- its name stands below the first of them
pub a_name_once : named_text names lines ≡ in_a_row (codes "A\n" ∷ codes "B\n" ∷ codes "block 2 is \"before bore 1\"\n" ∷ codes "C\n" ∷ codes "D\n" ∷ [])
unfolding digits
a_name_once = refl
