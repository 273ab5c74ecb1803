-- Decimal literals, as arguments of functions.
use Rattle.std.specs.Prelude.{ℕ, ◌+◌, ◌-◌, ◌*◌, ◌/◌, ◌==◌, Bool, true, false, ◌&&◌, nat_lt, if◌then◌else◌, Option}
use Rattle.std.specs.Char.{is_ascii_digit}
use Rattle.vcm_functions.specs.declared.literals.Stage.{Stage}
use Rattle.vcm_functions.specs.declared.literals.Stage.TheVariants.{Start, Whole, Part, Closed, Done, Bad}
use Rattle.vcm_functions.specs.declared.literals.Literal.{Literal}
use Rattle.vcm_functions.specs.declared.values.Value.{Value}
use Rattle.vcm_functions.specs.Values.{number, if_small}

-- nothing is read: a digit counts a whole one
abbrev pub unread : Literal
unread = record { stage = Start; inner = false; negative = false; point = false; some = false; value = 0; weight = 1000000000 }

-- it is none
abbrev pub bad : Literal → Literal
bad l = record l { stage = Bad }

-- one more digit that weighs so much; the nineteenth, and one that would weigh less than a billionth, aren't read
abbrev pub digit_of : Literal → Stage → ℕ → ℕ → Literal
digit_of l s weight d =
    if nat_lt l.value 100000000000000000 && nat_lt 0 weight
    then record l { stage = s; some = true; value = 10 * l.value + d; weight = weight }
    else bad l

-- a digit
abbrev pub digit_behind : Stage → Literal → ℕ → Literal
digit_behind Start l d = digit_of l Whole l.weight d
digit_behind Whole l d = digit_of l Whole l.weight d
digit_behind Part l d = digit_of l Part (l.weight / 10) d
digit_behind s l d = bad l

-- a point
abbrev pub point_behind : Stage → Literal → Literal
point_behind Start l = record l { stage = Part; point = true }
point_behind Whole l = record l { stage = Part; point = true }
point_behind s l = bad l

-- a sign, which stands before all digits
abbrev pub sign_behind : Stage → Literal → Bool → Literal
sign_behind Start l minus = record l { stage = Whole; negative = minus }
sign_behind s l minus = bad l

-- a parenthesis that begins, in front of the sign
abbrev pub opening_behind : Stage → Bool → Literal → Literal
opening_behind Start false l = record l { inner = true }
opening_behind s inner l = bad l

-- the end of what a number stands in: of its own parentheses, or of the call's
abbrev pub end_of : Bool → Literal → Literal
end_of true l = record l { stage = Closed; inner = false }
end_of false l = record l { stage = Done }

-- a parenthesis that ends, behind a digit
abbrev pub closing_behind : Stage → Literal → Literal
closing_behind Whole l = if l.some then end_of l.inner l else bad l
closing_behind Part l = if l.some then end_of l.inner l else bad l
closing_behind Closed l = end_of l.inner l
closing_behind s l = bad l

-- one more byte, which is no blank
abbrev pub literal_behind : Literal → ℕ → Literal
literal_behind l b =
    if is_ascii_digit b then digit_behind l.stage l (b - 48)
    else if b == 46 then point_behind l.stage l
    else if b == 43 then sign_behind l.stage l false
    else if b == 45 then sign_behind l.stage l true
    else if b == 40 then opening_behind l.stage l.inner l
    else if b == 41 then closing_behind l.stage l
    else bad l

-- the value of a literal that is below ten to the ninth
abbrev pub value_in : Literal → Option Value
value_in l = if_small (number l.point l.negative (l.value * l.weight))
