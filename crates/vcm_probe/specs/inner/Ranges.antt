-- Settings in range.
use Rattle.std.specs.Prelude.{ℕ, ◌≤◌}

-- the approach and the retract length are from 1 to a metre, the search length and the depth at most a metre, all in micrometres
abbrev pub InRange : ℕ → ℕ → ℕ → ℕ → Type 0
InRange approach retract search depth =
    (1 ≤ approach) × (approach ≤ 1000000) × (1 ≤ retract) × (retract ≤ 1000000) × (search ≤ 1000000) × (depth ≤ 1000000)
