-- Bytes among which there is no mark.
use Rattle.std.specs.Prelude.{◌≡◌, ℕ, ◌==◌, false, List}
use Rattle.std.specs.List.{AllByRecursion}

-- no byte is the mark
abbrev pub Without : ℕ → List ℕ → Type 0
Without mark bs = AllByRecursion (λ b. (b == mark) ≡ false) bs

-- neither a blank nor the end of a line
abbrev pub IsWord : List ℕ → Type 0
IsWord w = Without 32 w × Without 10 w
