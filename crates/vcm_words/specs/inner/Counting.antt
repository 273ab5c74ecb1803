-- Counts up to one more than the most, which stands for all that is more.
use Rattle.std.specs.Prelude.{◌≡◌, ℕ, ◌+◌, ◌≤◌}

-- the count is the number, or one more than the most where the number is larger
abbrev pub IsCount : ℕ → ℕ → ℕ → Type 0
IsCount most count n = (count ≤ most + 1) × ((count ≤ most → count ≡ n) × (count ≤ n))

-- one more of what is counted
abbrev pub Next : ℕ → ℕ → ℕ → Type 0
Next most count next = (n : ℕ) → IsCount most count n → IsCount most next (n + 1)
