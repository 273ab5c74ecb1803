-- Worked examples: expressions with functions, computed.
use Rattle.std.specs.Prelude.{◌≡◌, refl, ℕ, true, false, List, codes}
use Rattle.std.specs.Fmt.{digits}
use Rattle.vcm_functions.specs.Values.{root}
use Rattle.vcm_functions.specs.Calls.{pass}
use Rattle.vcm_functions.specs.Relations.{opened_text}
use Rattle.vcm_functions.specs.Folded.{has_function, folded}

-- an expression is written like this
abbrev Gives : List ℕ → List ℕ → Type 0
Gives bytes written = folded bytes ≡ written

-- an expression stays as it is written
abbrev Stays : List ℕ → Type 0
Stays bytes = folded bytes ≡ bytes

-- ---- calls by literals

pub square_root : Gives (codes "SQRT(200.0)") (codes "14.14213562")
unfolding digits has_function pass opened_text root
square_root = refl

pub large_root : Gives (codes "SQRT(5000)") (codes "70.7106781")
unfolding digits has_function pass opened_text root
large_root = refl

pub whole_root : Gives (codes "X+SQRT(4)*2") (codes "X+2.0*2")
unfolding digits has_function pass opened_text root
whole_root = refl

pub sine : Gives (codes "SIN(0.5)") (codes "0.479425539")
unfolding digits has_function pass opened_text root
sine = refl

pub negative_sine : Gives (codes "sin(-0.5)") (codes "(-0.479425539)")
unfolding digits has_function pass opened_text root
negative_sine = refl

pub large_sine : Gives (codes "SIN(123456789.123456789)") (codes "0.999850931")
unfolding digits has_function pass opened_text root
large_sine = refl

pub cosine : Gives (codes "COS(3)") (codes "(-0.989992497)")
unfolding digits has_function pass opened_text root
cosine = refl

pub cosine_of_zero : Gives (codes "COS(0)") (codes "1.0")
unfolding digits has_function pass opened_text root
cosine_of_zero = refl

pub tangent : Gives (codes "TAN(-2.5)") (codes "0.747022297")
unfolding digits has_function pass opened_text root
tangent = refl

pub radians : Gives (codes "DTOR(30)") (codes "0.523598776")
unfolding digits has_function pass opened_text root
radians = refl

pub degrees : Gives (codes "RTOD(1)") (codes "57.2957795")
unfolding digits has_function pass opened_text root
degrees = refl

pub absolute_value : Gives (codes "ABS(-2.5)") (codes "2.5")
unfolding digits has_function pass opened_text root
absolute_value = refl

pub absolute_whole : Gives (codes "ABS(-3)") (codes "3")
unfolding digits has_function pass opened_text root
absolute_whole = refl

pub nearest : Gives (codes "NINT(-2.5)") (codes "(-3)")
unfolding digits has_function pass opened_text root
nearest = refl

pub cut : Gives (codes "INT(-2.75)") (codes "(-2)")
unfolding digits has_function pass opened_text root
cut = refl

pub double : Gives (codes "DBLE(2)") (codes "2.0")
unfolding digits has_function pass opened_text root
double = refl

pub nested : Gives (codes "SIN(DTOR(30))") (codes "0.5")
unfolding digits has_function pass opened_text root
nested = refl

pub nested_negative : Gives (codes "ABS( NINT( -7.6 ) )") (codes "8")
unfolding digits has_function pass opened_text root
nested_negative = refl

pub no_digit_before : Gives (codes "SQRT(.25)") (codes "0.5")
unfolding digits has_function pass opened_text root
no_digit_before = refl

pub blanks : Gives (codes "2 * S QRT ( + 2 5 ) -1") (codes "2 * 5.0 -1")
unfolding digits has_function pass opened_text root
blanks = refl

pub two_calls : Gives (codes "NINT(0.5)+INT(7.9)") (codes "1+7")
unfolding digits has_function pass opened_text root
two_calls = refl

-- ---- relations of absolute values

pub greater : Gives (codes "ABS(X-1).GT.0.5") (codes "((X-1).GT.0.5.OR.(0-(X-1)).GT.0.5)")
unfolding digits has_function pass opened_text root
greater = refl

pub greater_or_equal : Gives (codes "(ABS(DEV).GE.ZLIM)") (codes "(((DEV).GE.ZLIM.OR.(0-(DEV)).GE.ZLIM))")
unfolding digits has_function pass opened_text root
greater_or_equal = refl

pub less : Gives (codes ".NOT.ABS(F(X)).LT.2*(Y+1).AND.B") (codes ".NOT.((F(X)).LT.2*(Y+1).AND.(0-(F(X))).LT.2*(Y+1)).AND.B")
unfolding digits has_function pass opened_text root
less = refl

pub less_or_equal : Gives (codes "abs (X) .LE. 2 .OR. ABS(Y) .GT. 1") (codes "((X) .LE. 2 .AND.(0-(X)) .LE. 2 ).OR. ((Y) .GT. 1.OR.(0-(Y)) .GT. 1)")
unfolding digits has_function pass opened_text root
less_or_equal = refl

pub with_a_call : Gives (codes "ABS(X).GT.SQRT(2.25)") (codes "((X).GT.1.5.OR.(0-(X)).GT.1.5)")
unfolding digits has_function pass opened_text root
with_a_call = refl

-- ---- what stays

pub no_function : Stays (codes "X*(Y+2.5).GT.3")
unfolding digits has_function pass opened_text root
no_function = refl

pub word_alone : Stays (codes "F(SIN)")
unfolding digits has_function pass opened_text root
word_alone = refl

pub longer_word : Stays (codes "XSIN(2)+SINX(2)+2SIN(2)")
unfolding digits has_function pass opened_text root
longer_word = refl

pub quoted : Stays (codes "'SIN(2)'")
unfolding digits has_function pass opened_text root
quoted = refl

pub by_a_variable : Stays (codes "SQRT(X)+SIN(2*3)")
unfolding digits has_function pass opened_text root
by_a_variable = refl

pub root_of_negative : Stays (codes "SQRT(-4)")
unfolding digits has_function pass opened_text root
root_of_negative = refl

pub tangent_too_large : Stays (codes "TAN(1.5707963)")
unfolding digits has_function pass opened_text root
tangent_too_large = refl

pub too_many_decimals : Stays (codes "ABS(0.1234567891)")
unfolding digits has_function pass opened_text root
too_many_decimals = refl

pub too_many_digits : Stays (codes "INT(1234567890.5)")
unfolding digits has_function pass opened_text root
too_many_digits = refl

pub degrees_too_many : Stays (codes "RTOD(123456789)")
unfolding digits has_function pass opened_text root
degrees_too_many = refl

pub two_signs : Stays (codes "ABS(--2)")
unfolding digits has_function pass opened_text root
two_signs = refl

pub mirrored : Stays (codes "Z.LT.ABS(X)")
unfolding digits has_function pass opened_text root
mirrored = refl

pub equal : Stays (codes "ABS(X).EQ.2")
unfolding digits has_function pass opened_text root
equal = refl

pub in_a_sum : Stays (codes "1+ABS(X).GT.2")
unfolding digits has_function pass opened_text root
in_a_sum = refl

pub in_a_sum_before : Stays (codes "ABS(X)+1.GT.2")
unfolding digits has_function pass opened_text root
in_a_sum_before = refl

pub with_quoted_bound : Stays (codes "ABS(X).GT.'A.AND.B'")
unfolding digits has_function pass opened_text root
with_quoted_bound = refl

-- ---- whether there is a function

pub found : has_function (codes "2*Sqrt (4)") ≡ true
unfolding has_function
found = refl

pub not_found : has_function (codes "SIN+XSIN(2)") ≡ false
unfolding has_function
not_found = refl
