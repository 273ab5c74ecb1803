-- Numbers that stand alone in a field, and the micrometres that they are.
use Rattle.std.specs.Prelude.{ℕ, ℤ, pos, suc, ◌+◌, ◌-◌, ◌*◌, ◌/◌, ◌%◌, ◌==◌, Bool, true, false, not, ◌&&◌, ◌||◌, nat_lt, if◌then◌else◌, List, [], ◌∷◌, ◌++◌, Option, Some, None}
use Rattle.std.specs.Char.{is_ascii_digit}
use Rattle.vcm_num.specs.Texts.{size_text}
use Rattle.vcm_plain.specs.declared.lone.Stage.{Stage}
use Rattle.vcm_plain.specs.declared.lone.Stage.TheVariants.{Before, Whole, Part, Bad}
use Rattle.vcm_plain.specs.declared.lone.Lone.{Lone}
use Rattle.vcm_plain.specs.declared.lone.TheConstants.{MOST_BEFORE, MOST_PLACES, MOST_VALUE, MOST_LENGTH}

-- nothing of a number is read
abbrev pub unread : Lone
unread = record { stage = Before; negative = false; value = 0; places = 0; fine = false; some = false }

-- a number that is none
abbrev pub bad : Lone
bad = record { stage = Bad; negative = false; value = 0; places = 0; fine = false; some = false }

-- one more digit before the point; a number that gets too large is none
abbrev pub whole_behind : Lone → ℕ → Lone
whole_behind n d = if nat_lt n.value MOST_BEFORE then record n { stage = Whole; value = 10 * n.value + d; some = true } else bad

-- one more digit behind the point; those behind the sixth are left out
abbrev pub part_behind : Lone → ℕ → Lone
part_behind n d =
    if nat_lt n.places MOST_PLACES && nat_lt n.value MOST_BEFORE
    then record n { value = 10 * n.value + d; places = suc n.places; fine = not (nat_lt n.places 3); some = true }
    else record n { fine = true }

-- one more digit
abbrev pub digit_behind : Stage → Lone → ℕ → Lone
digit_behind Before n d = whole_behind n d
digit_behind Whole n d = whole_behind n d
digit_behind Part n d = part_behind n d
digit_behind Bad n d = bad

-- a point
abbrev pub point_behind : Stage → Lone → Lone
point_behind Before n = record n { stage = Part }
point_behind Whole n = record n { stage = Part }
point_behind s n = bad

-- a sign, which stands before all else
abbrev pub sign_behind : Stage → Bool → Bool → Lone → Lone
sign_behind Before minus false n = record n { stage = Whole; negative = minus }
sign_behind s minus some n = bad

-- whether a byte stands for nothing
abbrev pub is_space : ℕ → Bool
is_space b = b == 32 || (b == 9 || b == 13)

-- one more byte
abbrev pub lone_behind : Lone → ℕ → Lone
lone_behind n b =
    if is_ascii_digit b then digit_behind n.stage n (b - 48)
    else if is_space b then n
    else if b == 46 then point_behind n.stage n
    else if b == 43 then sign_behind n.stage false n.some n
    else if b == 45 then sign_behind n.stage true n.some n
    else bad

-- all bytes
abbrev pub lone_from : Lone → List ℕ → Lone
lone_from n [] = n
lone_from n (b ∷ bs) = lone_from (lone_behind n b) bs

-- whether what was read is a number that isn't too large
abbrev pub is_lone : Lone → Bool
is_lone n = n.some && nat_lt n.value MOST_VALUE

-- 10 to this power, up to 6
abbrev pub power : ℕ → ℕ
power n =
    if n == 0 then 1
    else if n == 1 then 10
    else if n == 2 then 100
    else if n == 3 then 1000
    else if n == 4 then 10000
    else if n == 5 then 100000
    else 1000000

-- the micrometres of a number, where its unit has so many, to the nearest one
abbrev pub rounded : ℕ → Lone → ℕ
rounded unit n = (2 * (n.value * unit) + power n.places) / (2 * power n.places)

-- how many millionths a number has, without its sign
abbrev pub in_millionths : Lone → ℕ
in_millionths n = n.value * power (6 - n.places)

-- the thousandths of a component of a direction, to the nearest one; none only where it is below 0.00004, so that a direction that counts as one along an axis is one
abbrev pub component : Lone → ℕ
component n = if rounded 1000 n == 0 && not (nat_lt (in_millionths n) 40) then 1 else rounded 1000 n

-- a minus, where a number below zero doesn't come to 0
abbrev pub minus_of : Bool → List ℕ
minus_of negative = if negative then 45 ∷ [] else []

-- so many micrometres as they are written, in millimetres with three decimals
abbrev pub written : Bool → ℕ → List ℕ
written negative m = minus_of (negative && not (m == 0)) ++ size_text m

-- so many micrometres as they are written, or the field as it is where they are too many
abbrev pub written_or : List ℕ → Bool → ℕ → List ℕ
written_or field negative m = if nat_lt m MOST_LENGTH then written negative m else field

-- how many millionths a number has, without its sign, none where it is no number
abbrev pub millionths : Lone → Option ℕ
millionths n = if is_lone n then Some (in_millionths n) else None

-- the same of bytes
abbrev pub millionths_in : List ℕ → Option ℕ
millionths_in bs = millionths (lone_from unread bs)
