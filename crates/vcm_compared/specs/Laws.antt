-- Statements about the definitions. Each is a clause of a law in src/laws.rt.
use Rattle.std.specs.Prelude.{◌≡◌, ℕ, false, List}
use Rattle.vcm_lines.specs.declared.logical.Logical.{Logical}
use Rattle.vcm_forms.specs.declared.statement.Statement.{Statement}
use Rattle.vcm_compared.specs.Compared.{has_texts, compared}

-- a text that declares no variable of texts, and has no CASE of texts, stays the same
abbrev pub OthersStay : Type 0
OthersStay = (given : List (List ℕ)) (ls : List Logical) (ss : List Statement) → has_texts ls ≡ false → compared given ls ss ≡ ss
