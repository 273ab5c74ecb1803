-- The texts of numbers and what they mean.
use Rattle.std.specs.Prelude.{◌≡◌, ℕ, ◌+◌, ◌-◌, ◌*◌, ◌^◌, ◌<◌, ◌≤◌, ◌==◌, ◌||◌, if◌then◌else◌, Bool, true, false, ℤ, pos}
use Rattle.std.specs.Prelude.{neg_ℤ, List, [], ◌∷◌, ◌++◌, length, drop, slice_index_or, Option, Some, None, Result, Ok, Err}
use Rattle.std.specs.List.{list_all}
use Rattle.std.specs.Char.{is_ascii_digit}
use Rattle.vcm_num.specs.declared.number.Literal.{Literal}
use Rattle.vcm_num.specs.declared.number.Literal.TheVariants.{Int, Thousandths}
use Rattle.vcm_num.specs.declared.read.NumFault.{NumFault}
use Rattle.vcm_num.specs.declared.read.NumFault.TheVariants.{BadNumber, TooFine, TooLarge}

-- the number that digits spell: each digit times a power of ten
abbrev pub digits_value : List ℕ → ℕ
digits_value [] = 0
digits_value (d ∷ ds) = (d - 48) * 10 ^ length ds + digits_value ds

-- each byte is a digit
abbrev pub AllDigits : List ℕ → Type 0
AllDigits [] = Unit {0}
AllDigits (b ∷ bs) = (is_ascii_digit b ≡ true) × AllDigits bs

-- a minus is the first byte
abbrev pub has_minus : List ℕ → Bool
has_minus [] = false
has_minus (b ∷ bs) = b == 45

-- what follows the sign, if there is one
abbrev pub after_sign : List ℕ → List ℕ
after_sign [] = []
after_sign (b ∷ bs) = if (b == 43) || (b == 45) then bs else b ∷ bs

-- the parts of a number: without a point it has no decimals
pub record Parts : Type 0 where
  pub whole : List ℕ
  pub decimals : Option (List ℕ)

-- a point and the digits after it
abbrev pub point_part : Option (List ℕ) → List ℕ
point_part None = []
point_part (Some ds) = 46 ∷ ds

-- the digits behind the point, none where there is no point
abbrev pub digits_after : Option (List ℕ) → List ℕ
digits_after None = []
digits_after (Some ds) = ds

-- the bytes are perhaps a sign, digits, and perhaps a point with digits, and there is a digit
pub record SpellsNumber (bytes : List ℕ) (p : Parts) : Type 0 where
  pub cut : after_sign bytes ≡ p.whole ++ point_part p.decimals
  pub whole_digits : AllDigits p.whole
  pub decimal_digits : AllDigits (digits_after p.decimals)
  pub has_digit : 0 < length p.whole + length (digits_after p.decimals)

-- the digits after the third decimal are zeros
abbrev pub is_fine : Parts → Bool
is_fine p = list_all (λ d. d == 48) (drop 3 (digits_after p.decimals))

-- the first three decimals, zeros in place of those that are absent
abbrev pub three_decimals : List ℕ → List ℕ
three_decimals ds = slice_index_or ds 0 48 ∷ slice_index_or ds 1 48 ∷ slice_index_or ds 2 48 ∷ []

-- the whole number, or the number of thousandths, without its sign
abbrev pub magnitude_of : List ℕ → Option (List ℕ) → ℕ
magnitude_of whole None = digits_value whole
magnitude_of whole (Some ds) = digits_value (whole ++ three_decimals ds)

-- a number with its sign, true being a minus
abbrev pub signed : Bool → ℕ → ℤ
signed true n = neg_ℤ (pos n)
signed false n = pos n

-- the literal with this sign and these decimals
abbrev pub literal_of : Bool → ℕ → Option (List ℕ) → Literal
literal_of minus n None = Int (signed minus n)
literal_of minus n (Some ds) = Thousandths (signed minus n)

-- what the reading of these bytes gives
abbrev pub Reads : List ℕ → Result Literal NumFault → Type 0
Reads bytes (Ok x) =
    (p : Parts) × SpellsNumber bytes p × (is_fine p ≡ true) × (magnitude_of p.whole p.decimals < 2 ^ 63)
    × (x ≡ literal_of (has_minus bytes) (magnitude_of p.whole p.decimals) p.decimals)
Reads bytes (Err BadNumber) = (p : Parts) → ¬ SpellsNumber bytes p
Reads bytes (Err TooFine) = (p : Parts) × SpellsNumber bytes p × (is_fine p ≡ false)
Reads bytes (Err TooLarge) =
    (p : Parts) × SpellsNumber bytes p × (is_fine p ≡ true) × (2 ^ 63 ≤ magnitude_of p.whole p.decimals)

-- the number that is read where these digits are written behind the number n
abbrev pub number_after : ℕ → List ℕ → ℕ
number_after n [] = n
number_after n (d ∷ ds) = number_after (n * 10 + (d - 48)) ds
