-- Lengths as a mesh file writes them, and whole micrometres.
use Rattle.std.specs.Prelude.{ℕ, ℤ, ◌+◌, ◌-◌, ◌*◌, ◌/◌, ◌%◌, ◌^◌, ◌==◌, ◌||◌, ◌&&◌, Bool, nat_le, nat_lt, if◌then◌else◌}
use Rattle.std.specs.Prelude.{List, [], ◌∷◌, length, drop, slice_index, Option, Some, None, Result, Ok, Err}
use Rattle.std.specs.List.{list_all, take_while}
use Rattle.std.specs.Char.{is_ascii_digit}
use Rattle.vcm_num.specs.Literals.{has_minus, after_sign, signed, number_after}
use Rattle.vcm_mesh.specs.declared.placing.LengthUnit.{LengthUnit}
use Rattle.vcm_mesh.specs.declared.placing.LengthUnit.TheVariants.{Millimetre, Inch}
use Rattle.vcm_mesh.specs.declared.fault.Misread.{Misread}
use Rattle.vcm_mesh.specs.declared.fault.Misread.TheVariants.{NotANumber, TooFar}

-- how many micrometres a length of the model is
abbrev pub scale_of : LengthUnit → ℕ
scale_of Millimetre = 1000
scale_of Inch = 25400

-- a quotient to the nearest whole number, halves upward
abbrev pub rounded : ℕ → ℕ → ℕ
rounded n d = (n + d / 2) / d

-- a number of micrometres, if it is at most two kilometres
abbrev pub if_not_too_far : ℕ → Option ℕ
if_not_too_far n = if nat_le n 2000000000 then Some n else None

-- a number with its sign, true being a minus, if there is one
abbrev pub with_sign : Bool → Option ℕ → Result ℤ Misread
with_sign minus None = Err TooFar
with_sign minus (Some n) = Ok (signed minus n)

-- a number of micrometres with its sign, if it is at most two kilometres
abbrev pub not_too_far : Bool → ℕ → Result ℤ Misread
not_too_far minus n = with_sign minus (if_not_too_far n)

-- ---- binary numbers

-- the number of the four bytes from a place on, the lowest byte first
abbrev pub word_at : List ℕ → ℕ → ℕ
word_at bytes at =
    slice_index bytes at + 256 * slice_index bytes (at + 1) + 65536 * slice_index bytes (at + 2) + 16777216 * slice_index bytes (at + 3)

-- the micrometres of a number of 32 bits without its sign: its exponent and its fraction are given
abbrev pub float_size : ℕ → ℕ → ℕ → ℕ
float_size scale exponent fraction =
    if exponent == 0 then rounded (fraction * scale) (2 ^ 149)
    else if nat_lt exponent 150 then rounded ((fraction + 8388608) * scale) (2 ^ (150 - exponent))
    else (fraction + 8388608) * scale * 2 ^ (exponent - 150)

-- those of a word of 32 bits: the lowest 23 are the fraction, eight the exponent, the highest one the sign
abbrev pub float_of : ℕ → ℕ → Result ℤ Misread
float_of scale word =
    if (word / 8388608) % 256 == 255 then Err NotANumber
    else not_too_far (nat_le 2147483648 word) (float_size scale ((word / 8388608) % 256) (word % 8388608))

-- ---- written numbers

-- the digits in front
abbrev pub front_digits : List ℕ → List ℕ
front_digits text = take_while is_ascii_digit text

-- what stands after them
abbrev pub behind_digits : List ℕ → List ℕ
behind_digits text = drop (length (front_digits text)) text

-- what stands after a point, if that is the first byte
abbrev pub behind_point : List ℕ → Option (List ℕ)
behind_point [] = None
behind_point (b ∷ bs) = if b == 46 then Some bs else None

-- an exponent: perhaps a sign, and one to four digits
abbrev pub is_exponent : List ℕ → Bool
is_exponent text = nat_lt 0 (length (after_sign text)) && nat_le (length (after_sign text)) 4 && list_all is_ascii_digit (after_sign text)

-- what the digits are multiplied with: ten to the first power, over ten to the second one
pub record Shift : Type 0 where
  pub up : ℕ
  pub down : ℕ

-- the shift of an exponent, so many digits standing after the point
abbrev pub shift_by : Bool → ℕ → ℕ → Shift
shift_by minus exponent decimals =
    if minus then record { up = 0; down = decimals + exponent } else record { up = exponent - decimals; down = decimals - exponent }

-- that of what stands after the digits: nothing, or `e` and an exponent
abbrev pub shift_of : ℕ → List ℕ → Option Shift
shift_of decimals [] = Some (record { up = 0; down = decimals })
shift_of decimals (b ∷ bs) =
    if ((b == 101) || (b == 69)) && is_exponent bs then Some (shift_by (has_minus bs) (number_after 0 (after_sign bs)) decimals) else None

-- the micrometres of these digits with a shift
abbrev pub shifted : ℕ → List ℕ → List ℕ → Shift → ℕ
shifted scale whole decimals s = rounded (number_after (number_after 0 whole) decimals * scale * 10 ^ s.up) (10 ^ s.down)

-- a number of these parts: it has one digit at least, and 32 at most
abbrev pub length_of : ℕ → Bool → List ℕ → List ℕ → Option Shift → Result ℤ Misread
length_of scale minus whole decimals None = Err NotANumber
length_of scale minus whole decimals (Some s) =
    if nat_lt 0 (length whole + length decimals) && nat_le (length whole + length decimals) 32
    then not_too_far minus (shifted scale whole decimals s)
    else Err NotANumber

-- those of a number with a sign before it, digits, and what stands after the point if there is one
abbrev pub number_of : ℕ → Bool → List ℕ → List ℕ → Option (List ℕ) → Result ℤ Misread
number_of scale minus whole rest None = length_of scale minus whole [] (shift_of 0 rest)
number_of scale minus whole rest (Some behind) =
    length_of scale minus whole (front_digits behind) (shift_of (length (front_digits behind)) (behind_digits behind))

-- the micrometres that a word spells
unfoldable pub decimal_of : ℕ → List ℕ → Result ℤ Misread
decimal_of scale text =
    let body = after_sign text in
    number_of scale (has_minus text) (front_digits body) (behind_digits body) (behind_point (behind_digits body))
