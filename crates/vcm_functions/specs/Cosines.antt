-- Sines and cosines as whole numbers.
use Rattle.std.specs.Prelude.{ℕ, ◌+◌, ◌-◌, ◌*◌, ◌/◌, nat_le, if◌then◌else◌}

-- a cosine counts in parts of which one has 18446744073709551616; the most that there are stands for one itself
abbrev pub most_parts : ℕ
most_parts = 18446744073709551615

-- a part of a part
abbrev pub product : ℕ → ℕ → ℕ
product a b = (a * b) / 18446744073709551616

-- one less the square of an angle by a number, by what comes behind it in the series
abbrev pub one_less : ℕ → ℕ → ℕ → ℕ
one_less square n behind = most_parts - product square behind / n

-- the cosine of an angle by its square: 1 - x²/2 + x⁴/24 - .., up to the twelfth power
abbrev pub cosine_by : ℕ → ℕ
cosine_by s = one_less s 2 (one_less s 12 (one_less s 30 (one_less s 56 (one_less s 90 (one_less s 132 most_parts)))))

-- its sine by the angle itself: 1 - x²/6 + x⁴/120 - .., up to the twelfth power
abbrev pub sine_by : ℕ → ℕ
sine_by s = one_less s 6 (one_less s 20 (one_less s 42 (one_less s 72 (one_less s 110 (one_less s 156 most_parts)))))

-- the cosine of an arc, up to an eighth of a turn
abbrev pub arc_cosine : ℕ → ℕ
arc_cosine r = cosine_by (product r r)

-- and its sine
abbrev pub arc_sine : ℕ → ℕ
arc_sine r = product r (sine_by (product r r))

-- the length of the arc of an angle up to 45 degrees, in millionths of a degree
abbrev pub arc : ℕ → ℕ
arc a = (a * 321956420358983237439) / 1000000000

-- the cosine of an angle up to 90 degrees: of a large one the sine of what is left
abbrev pub cosine : ℕ → ℕ
cosine a = if nat_le a 45000000 then arc_cosine (arc a) else arc_sine (arc (90000000 - a))

-- a length by parts, to the nearest micrometre
abbrev pub part_of : ℕ → ℕ → ℕ
part_of length parts = (length * parts + 9223372036854775808) / 18446744073709551616
