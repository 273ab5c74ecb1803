-- The blocks of CASE in a SELECT, one behind the other.
use Rattle.std.specs.Prelude.{ℕ, ℤ, List, [], ◌∷◌}
use Rattle.vcm_spec.specs.Program.{Block, Cases, no_more, one_case, default}

-- a CASE that is closed: its line, its value, its block and the line of its ENDCAS
abbrev pub Closed : Type 0
Closed = ℕ × ℤ × Block × ℕ

-- those of a SELECT, without DFTCAS
abbrev pub closed_of : Cases → List Closed
closed_of no_more = []
closed_of (one_case line value block close rest) = (line, value, block, close) ∷ closed_of rest
closed_of (default line block close) = []
