-- The values of functions, as whole numbers of billionths.
use Rattle.std.specs.Prelude.{ℕ, zero, suc, codes, ◌+◌, ◌-◌, ◌*◌, ◌/◌, ◌%◌, ◌==◌, Bool, true, false, not, ◌&&◌, nat_le, nat_lt, if◌then◌else◌, List, [], ◌∷◌, ◌++◌, decimal, Option, Some, None}
use Rattle.vcm_num.specs.Texts.{three_digits}
use Rattle.vcm_num.specs.Words.{look_up}
use Rattle.vcm_functions.specs.declared.values.Function.{Function}
use Rattle.vcm_functions.specs.declared.values.Function.TheVariants.{Sqrt, Sin, Cos, Tan, Dtor, Rtod, Abs, Nint, Int, Dble}
use Rattle.vcm_functions.specs.declared.values.Value.{Value}
use Rattle.vcm_functions.specs.Cosines.{arc_cosine, arc_sine}

-- the function that a word in upper case names
abbrev pub function_of : List ℕ → Option Function
function_of word = look_up
    ((codes "SQRT", Sqrt)
    ∷ (codes "SIN", Sin)
    ∷ (codes "COS", Cos)
    ∷ (codes "TAN", Tan)
    ∷ (codes "DTOR", Dtor)
    ∷ (codes "RTOD", Rtod)
    ∷ (codes "ABS", Abs)
    ∷ (codes "NINT", Nint)
    ∷ (codes "INT", Int)
    ∷ (codes "DBLE", Dble)
    ∷ []) word

-- ---- numbers

-- a number of so many billionths, with a sign where it isn't zero
abbrev pub number : Bool → Bool → ℕ → Value
number point negative n = record { negative = negative && not (n == 0); point = point; billionths = n }

-- a value, where it is below ten to the ninth
abbrev pub if_small : Value → Option Value
if_small v = if nat_lt v.billionths 1000000000000000000 then Some v else None

-- so many whole ones
abbrev pub whole_number : Bool → ℕ → Value
whole_number negative n = number false negative (n * 1000000000)

-- ---- roots

-- a root behind one more binary digit
abbrev pub root_step : ℕ → ℕ → ℕ
root_step n r = if nat_le ((r + 1) * (r + 1)) n then r + 1 else r

-- the greatest number whose square is no greater than this one, by so many binary digits
unfoldable pub root : ℕ → ℕ → ℕ
root zero n = 0
root (suc k) n = root_step n (2 * root k (n / 4))

-- the root of so many billionths, in billionths, to the nearest one
abbrev pub root_of : ℕ → ℕ
root_of n = (root 46 (4 * (n * 1000000000)) + 1) / 2

-- ---- angles

-- so many billionths of degrees in billionths of radians, to the nearest one
abbrev pub radians : ℕ → ℕ
radians n = (n * 174532925199432957692 + 5000000000000000000000) / 10000000000000000000000

-- so many billionths of radians in billionths of degrees, to the nearest one where these are below ten to the ninth degrees
abbrev pub degrees : ℕ → ℕ
degrees n = (n * 57295779513082320877 + 500000000000000000) / 1000000000000000000

-- so many billionths of radians, in parts of which a radian has 79228162514264337593543950336
abbrev pub fine_arc : ℕ → ℕ
fine_arc n = ((n * 18446744073709551616) / 1000000000) * 4294967296

-- an eighth of a turn in such parts
abbrev pub eighth : ℕ
eighth = 62225653328057771307630486156

-- how many eighths of a turn there are in so many billionths of radians
abbrev pub eighths : ℕ → ℕ
eighths n = fine_arc n / eighth

-- the arc behind them, in parts of which a radian has 18446744073709551616
abbrev pub arc_behind : ℕ → ℕ
arc_behind n = (fine_arc n % eighth) / 4294967296

-- the arc that is left to the next eighth
abbrev pub arc_left : ℕ → ℕ
arc_left y = eighth / 4294967296 - y

-- the size of the sine behind so many eighths of a turn and an arc
abbrev pub sine_size : ℕ → ℕ → ℕ
sine_size k y =
    if k % 4 == 0 then arc_sine y
    else if k % 4 == 1 then arc_cosine (arc_left y)
    else if k % 4 == 2 then arc_cosine y
    else arc_sine (arc_left y)

-- whether it is below zero
abbrev pub is_below : ℕ → Bool
is_below k = nat_le 4 (k % 8)

-- a sign, turned about where this is so
abbrev pub turned : Bool → Bool → Bool
turned true negative = not negative
turned false negative = negative

-- parts in billionths, to the nearest one
abbrev pub in_billionths : ℕ → ℕ
in_billionths p = (p * 1000000000 + 9223372036854775808) / 18446744073709551616

-- the sine of a number: at most 51 hundredths of a billionth beside the true one
abbrev pub sine : Value → Value
sine v = number true (turned (is_below (eighths v.billionths)) v.negative) (in_billionths (sine_size (eighths v.billionths) (arc_behind v.billionths)))

-- the cosine of so many billionths: the sine two eighths further
abbrev pub cosine : ℕ → Value
cosine n = number true (is_below (eighths n + 2)) (in_billionths (sine_size (eighths n + 2) (arc_behind n)))

-- a sine by a cosine, where that isn't below a thousandth
abbrev pub tangent_by : Bool → ℕ → ℕ → Option Value
tangent_by negative s c = if nat_lt c 18446744073709552 then None else Some (number true negative ((s * 1000000000 + c / 2) / c))

-- the tangent of a number: at most 51 hundredths of a billionth beside the true one
abbrev pub tangent : Value → Option Value
tangent v = tangent_by
    (turned (is_below (eighths v.billionths)) (turned (is_below (eighths v.billionths + 2)) v.negative))
    (sine_size (eighths v.billionths) (arc_behind v.billionths))
    (sine_size (eighths v.billionths + 2) (arc_behind v.billionths))

-- ---- functions

-- so many billionths of degrees, where they are below ten to the ninth degrees
abbrev pub in_degrees : Bool → ℕ → Option Value
in_degrees negative n = if nat_lt n 1000000000000000000 then Some (number true negative n) else None

-- the square root, of what isn't below zero
abbrev pub square_root : Value → Option Value
square_root v = if v.negative then None else Some (number true false (root_of v.billionths))

-- the value of a function by a number below ten to the ninth, if it has one
abbrev pub apply : Function → Value → Option Value
apply Sqrt v = square_root v
apply Sin v = Some (sine v)
apply Cos v = Some (cosine v.billionths)
apply Tan v = tangent v
apply Dtor v = Some (number true v.negative (radians v.billionths))
apply Rtod v = in_degrees v.negative (degrees v.billionths)
apply Abs v = Some (number v.point false v.billionths)
apply Nint v = if_small (whole_number v.negative ((v.billionths + 500000000) / 1000000000))
apply Int v = Some (whole_number v.negative (v.billionths / 1000000000))
apply Dble v = Some (number true v.negative v.billionths)

-- ---- texts

-- three digits without the zeros behind, but for the first
abbrev pub short_digits : ℕ → List ℕ
short_digits n =
    if n % 100 == 0 then (48 + n / 100) ∷ []
    else if n % 10 == 0 then (48 + n / 100) ∷ (48 + (n / 10) % 10) ∷ []
    else three_digits n

-- six digits in the same way
abbrev pub six_digits : ℕ → List ℕ
six_digits n = if n % 1000 == 0 then short_digits (n / 1000) else three_digits (n / 1000) ++ short_digits (n % 1000)

-- nine of them
abbrev pub nine_digits : ℕ → List ℕ
nine_digits n = if n % 1000000 == 0 then short_digits (n / 1000000) else three_digits (n / 1000000) ++ six_digits (n % 1000000)

-- a point, and the decimals
abbrev pub point_text : Bool → ℕ → List ℕ
point_text true n = 46 ∷ nine_digits n
point_text false n = []

-- a number without its sign
abbrev pub size_text : Value → List ℕ
size_text v = decimal (v.billionths / 1000000000) ++ point_text v.point (v.billionths % 1000000000)

-- the least power of ten, up to a million, of which so many billionths are no more than 4294967295
abbrev pub step_of : ℕ → ℕ
step_of n =
    if nat_lt n 4294967295 then 1
    else if nat_lt n 42949672950 then 10
    else if nat_lt n 429496729500 then 100
    else if nat_lt n 4294967295000 then 1000
    else if nat_lt n 42949672950000 then 10000
    else if nat_lt n 429496729500000 then 100000
    else 1000000

-- a number in such steps, to the nearest one
abbrev pub in_steps : ℕ → ℕ → ℕ
in_steps step n = ((n + step / 2) / step) * step

-- a value with so few decimals that its digits stand in a fraction that is followed
abbrev pub shortened : Value → Value
shortened v = if nat_lt v.billionths 1000000000000000000 then record v { billionths = in_steps (step_of v.billionths) v.billionths } else v

-- a number; below zero in parentheses
abbrev pub value_text : Value → List ℕ
value_text v = if v.negative then 40 ∷ 45 ∷ size_text (shortened v) ++ 41 ∷ [] else size_text (shortened v)
