-- Words, and what they stand for.
use Rattle.std.specs.Prelude.{ℕ, if◌then◌else◌, List, [], ◌∷◌, Option, Some, None}
use Rattle.std.specs.Str.{bytes_eq}

-- what a word stands for in a table: what is beside it where it comes first
abbrev pub look_up : {A : Type 0} → List (List ℕ × A) → List ℕ → Option A
look_up [] w = None
look_up (row ∷ rows) w = if bytes_eq w row.0 then Some row.1 else look_up rows w
