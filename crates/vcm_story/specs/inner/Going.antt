-- What following a run wrote.
use Rattle.std.specs.Prelude.{List, [], ◌∷◌, ◌++◌, ℕ, flat_map, Option}
use Rattle.std.specs.Io.KnownBytes.{Appends}
use Rattle.vcm_steps.specs.Passages.{Passage}
use Rattle.vcm_story.specs.Stories.{TookFront}

-- the rows of these steps were written
abbrev pub HasRows : (Passage → List ℕ) → Option (List ℕ) → Option (List ℕ) → List Passage → Type 0
HasRows rows old new ps = Appends old new (flat_map rows ps)

-- a front of them and of those of the one behind them
abbrev pub HasBegun : (Passage → List ℕ) → Option (List ℕ) → Option (List ℕ) → List Passage → Passage → Type 0
HasBegun rows old new ps p = TookFront old new (flat_map rows (ps ++ p ∷ []))
