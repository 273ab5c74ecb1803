-- Numbers that are rounded to 0, and numbers that are too far.
use Rattle.std.proofs.Common.{◌≡◌, ℕ, ◌+◌, ◌-◌, ◌*◌, ◌/◌, ◌^◌, ◌<◌, ◌≤◌, Some, None, refl, arith}
use Rattle.std.proofs.lemmas.Bool.{lt-leb}
use Rattle.std.proofs.lemmas.Nat.{div_below, pow-add, mul-le}
use Rattle.std.proofs.Math.Nat.{pow-le-pow_right, mul-le-mul_left}
use Rattle.vcm_mesh.specs.Lengths.{rounded, if_not_too_far}

-- a higher power is no less
power_grows : (n i j : ℕ) → 0 < n → i ≤ j → n ^ i ≤ n ^ j
power_grows n i j some h = pow-le-pow_right some {i = i} {j = j} h

-- what is below half of the divisor is rounded to 0
pub rounded_to_nothing : (n d : ℕ) → 2 * n + 2 ≤ d → Some 0 ≡ if_not_too_far (rounded n d)
rounded_to_nothing n d h =
    let none : (n + d / 2) / d ≡ 0 = omega (arith, div_below (n + d / 2) d 1 (omega arith) (omega arith)) in
    rw none refl

-- a number over a power of two that is far above it
pub halved_to_nothing : (n times : ℕ) → n < 2 ^ 40 → 60 < times → Some 0 ≡ if_not_too_far (rounded n (2 ^ times))
halved_to_nothing n times small many =
    let power : 2 ^ 61 ≤ 2 ^ times = power_grows 2 61 times (omega arith) (omega arith) in
    rounded_to_nothing n (2 ^ times) (omega arith)

-- and one over a power of ten
pub shrunk_to_nothing : (n down : ℕ) → n < 10 ^ 38 → 38 < down → Some 0 ≡ if_not_too_far (rounded n (10 ^ down))
shrunk_to_nothing n down small many =
    let power : 10 ^ 39 ≤ 10 ^ down = power_grows 10 39 down (omega arith) (omega arith) in
    rounded_to_nothing n (10 ^ down) (omega arith)

-- a number that is too far
pub beyond : (n : ℕ) → 2000000000 < n → None ≡ if_not_too_far n
beyond n h = rw (lt-leb n 2000000000 h) refl

-- a number times ten to a power is too far where the number is, or the power is ten at least
pub grown_beyond : (n up : ℕ) → 2000000000 < n → None ≡ if_not_too_far (n * 10 ^ up)
grown_beyond n up h =
    let power : 10 ^ 0 ≤ 10 ^ up = power_grows 10 0 up (omega arith) (omega arith) in
    beyond (n * 10 ^ up) (omega (arith, mul-le-mul_left n power))

pub power_beyond : (n up : ℕ) → 0 < n → 9 < up → None ≡ if_not_too_far (n * 10 ^ up)
power_beyond n up some h =
    let power : 10 ^ 10 ≤ 10 ^ up = power_grows 10 10 up (omega arith) (omega arith) in
    beyond (n * 10 ^ up) (omega (arith, mul-le-mul_left n power))

-- the powers of ten that fit 128 bits
pub power_fits : (k : ℕ) → k ≤ 38 → 10 ^ k ≤ 10 ^ 38
power_fits k h = power_grows 10 k 38 (omega arith) h

-- one digit more
pub one_digit_more : (n d k j : ℕ) → j ≡ k + 1 → n + 24 ≤ 24 * 10 ^ k → d < 256 → n * 10 + (d - 48) + 24 ≤ 24 * 10 ^ j
one_digit_more n d k j e h byte = rw e (omega (arith, pow-add 10 k 1))

-- the micrometres of at most 32 digits fit 128 bits
pub digits_fit : (n scale k : ℕ) → n + 24 ≤ 24 * 10 ^ k → k ≤ 32 → scale ≤ 25400 → n * scale < 10 ^ 38
digits_fit n scale k h few small =
    let power : 10 ^ k ≤ 10 ^ 32 = power_grows 10 k 32 (omega arith) few in
    omega (arith, mul-le n scale (24 * 10 ^ 32) 25400 (omega arith) small)

-- digits that may follow fit
pub fits_one_more : (n k : ℕ) → n + 24 ≤ 24 * 10 ^ k → k ≤ 31 → n < 24 * 10 ^ 31
fits_one_more n k h few = let power : 10 ^ k ≤ 10 ^ 31 = power_grows 10 k 31 (omega arith) few in omega arith
