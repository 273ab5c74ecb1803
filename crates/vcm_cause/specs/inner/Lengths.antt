-- Lengths that are no overflow in 128 bits.
use Rattle.std.specs.Prelude.{ℤ, pos, negsuc, ◌≤ℤ◌}

-- a difference of two numbers of 64 bits, and less by a tip
abbrev pub IsLength : ℤ → Type 0
IsLength z = (negsuc 36893488147419103232 ≤ℤ z) × (z ≤ℤ pos 36893488147419103232)

-- a sum of three of them
abbrev pub IsSum : ℤ → Type 0
IsSum z = (negsuc 147573952589676412928 ≤ℤ z) × (z ≤ℤ pos 147573952589676412928)
