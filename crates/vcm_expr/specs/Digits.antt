-- The reading of a number as a function.
use Rattle.std.specs.Prelude.{ℕ, ◌+◌, ◌^◌, ◌==◌, nat_lt, if◌then◌else◌, Bool, List, []}
use Rattle.std.specs.Prelude.{◌∷◌, length, drop, Option, Some, None, Result, Ok, Err}
use Rattle.std.specs.List.{list_all}
use Rattle.std.specs.Char.{is_ascii_digit}
use Rattle.vcm_num.specs.declared.number.Literal.{Literal}
use Rattle.vcm_num.specs.declared.read.NumFault.{NumFault}
use Rattle.vcm_num.specs.declared.read.NumFault.TheVariants.{BadNumber, TooFine, TooLarge}
use Rattle.vcm_num.specs.Literals.{after_sign, has_minus, magnitude_of, literal_of}

-- the digits at the front
abbrev pub front_digits : List ℕ → List ℕ
front_digits [] = []
front_digits (b ∷ bs) = if is_ascii_digit b then b ∷ front_digits bs else []

-- what follows the digits at the front
abbrev pub past_digits : List ℕ → List ℕ
past_digits [] = []
past_digits (b ∷ bs) = if is_ascii_digit b then past_digits bs else b ∷ bs

-- the literal of these digits, or that it is too large
abbrev pub sized : Bool → List ℕ → Option (List ℕ) → Result Literal NumFault
sized minus whole decimals =
    if nat_lt (magnitude_of whole decimals) (2 ^ 63)
    then Ok (literal_of minus (magnitude_of whole decimals) decimals)
    else Err TooLarge

-- a number with a point and these digits after it
abbrev pub read_decimals : Bool → List ℕ → List ℕ → Result Literal NumFault
read_decimals minus whole ds =
    if list_all is_ascii_digit ds
    then if length whole + length ds == 0 then Err BadNumber
    else if list_all (λ d. d == 48) (drop 3 ds) then sized minus whole (Some ds)
    else Err TooFine
    else Err BadNumber

-- the literal of these digits and of what follows them, or what is wrong
abbrev pub read_after : Bool → List ℕ → List ℕ → Result Literal NumFault
read_after minus whole [] = if length whole == 0 then Err BadNumber else sized minus whole None
read_after minus whole (b ∷ ds) = if b == 46 then read_decimals minus whole ds else Err BadNumber

-- what the reading of these bytes gives
unfoldable pub read_of : List ℕ → Result Literal NumFault
read_of bytes = read_after (has_minus bytes) (front_digits (after_sign bytes)) (past_digits (after_sign bytes))
