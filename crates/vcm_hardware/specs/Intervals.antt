-- Intervals of ten-millionths.
use Rattle.std.specs.Prelude.{ℕ, zero, suc, ◌+◌, ◌*◌, ◌^◌, ℤ, pos, negsuc, ◌+ℤ◌, ◌-ℤ◌, ◌*ℤ◌, neg_ℤ, nat_le, ◌==◌, if◌then◌else◌}
use Rattle.std.specs.Int.{int_min, int_max, int_div_euclid}
use Rattle.vcm_hardware.specs.declared.interval.Ratio.{Ratio}
use Rattle.vcm_hardware.specs.declared.interval.Interval.{Interval}

-- a number of ten-millionths as a whole number, down and up
abbrev pub floor_one : ℤ → ℤ
floor_one z = int_div_euclid z (pos 10000000)

abbrev pub ceil_one : ℤ → ℤ
ceil_one z = neg_ℤ (floor_one (neg_ℤ z))

-- half of a number, up
abbrev pub half_up : ℤ → ℤ
half_up z = int_div_euclid (z +ℤ pos 1) (pos 2)

-- a bit more of a root, if its square isn't above n
abbrev pub with_bit : ℕ → ℕ → ℕ → ℕ
with_bit n r bit = if nat_le ((r + bit) * (r + bit)) n then r + bit else r

-- the root of n, down, from r by so many bits
unfoldable pub root_by : ℕ → ℕ → ℕ → ℕ
root_by zero r n = r
root_by (suc b) r n = root_by b (with_bit n r (2 ^ b)) n

-- the root of n below 2 ^ 128, down
unfoldable pub root_down : ℕ → ℕ
root_down n = root_by 64 0 n

-- the root r of n, up, where r is the root down
abbrev pub rounded_up : ℕ → ℕ → ℕ
rounded_up n r = if r * r == n then r else r + 1

-- the root, up; that of a number below 0 is 0
abbrev pub root_up : ℤ → ℤ
root_up (pos n) = pos (rounded_up n (root_down n))
root_up (negsuc n) = pos 0

-- the least and the greatest of four
abbrev pub least_of : ℤ → ℤ → ℤ → ℤ → ℤ
least_of a b c d = int_min (int_min a b) (int_min c d)

abbrev pub greatest_of : ℤ → ℤ → ℤ → ℤ → ℤ
greatest_of a b c d = int_max (int_max a b) (int_max c d)

-- what a product lies between: the least and the greatest of four products, outward
abbrev pub product : Ratio → Ratio → Ratio
product x y = record {
  low = floor_one (least_of (x.low *ℤ y.low) (x.low *ℤ y.high) (x.high *ℤ y.low) (x.high *ℤ y.high));
  high = ceil_one (greatest_of (x.low *ℤ y.low) (x.low *ℤ y.high) (x.high *ℤ y.low) (x.high *ℤ y.high));
}

-- what the negative lies between
abbrev pub negative : Ratio → Ratio
negative x = record { low = neg_ℤ x.high; high = neg_ℤ x.low }

-- what n times a ratio lies between
abbrev pub scaled : ℤ → Ratio → Interval
scaled n x = record { low = int_min (n *ℤ x.low) (n *ℤ x.high); high = int_max (n *ℤ x.low) (n *ℤ x.high) }

-- what a sum of three lies between
abbrev pub sum_of : Interval → Interval → Interval → Interval
sum_of x y z = record { low = x.low +ℤ y.low +ℤ z.low; high = x.high +ℤ y.high +ℤ z.high }

-- the middle of a ratio, down
abbrev pub middle : Ratio → ℤ
middle x = int_div_euclid (x.low +ℤ x.high) (pos 2)

-- a ratio as an interval
abbrev pub wide : Ratio → Interval
wide x = record { low = x.low; high = x.high }

-- the absolute value
abbrev pub size : ℤ → ℤ
size z = int_max z (neg_ℤ z)

-- the least absolute value in an interval: 0 where it holds 0; and the greatest
abbrev pub least_size : Interval → ℤ
least_size x = int_max (int_max x.low (neg_ℤ x.high)) (pos 0)

abbrev pub greatest_size : Interval → ℤ
greatest_size x = int_max x.high (neg_ℤ x.low)

-- what the product with a slope lies between, outward
abbrev pub across : ℤ → Interval → Interval
across l x = record { low = floor_one (int_min (l *ℤ x.low) (l *ℤ x.high)); high = ceil_one (int_max (l *ℤ x.low) (l *ℤ x.high)) }

-- what is left of one interval, once a slope times another is taken away
abbrev pub less : ℤ → Interval → Interval → Interval
less l x other = record { low = x.low -ℤ (across l other).high; high = x.high -ℤ (across l other).low }
