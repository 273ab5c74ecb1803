-- Counts of steps.
use Rattle.std.proofs.Common.{◌≡◌, ℕ, ◌<◌, ◌≤◌, arith}
use Rattle.std.specs.Prelude.{Ok}
use Rattle.vcm_console.specs.Parsing.{counted}

-- a number of steps is counted
pub counts : (n : ℕ) → 0 < n → n ≤ 1000000 → counted n ≡ Ok n
counts n some few = grind arith
