-- Worked examples: fields of expressions with numbers that have more than three decimals, computed.
use Rattle.std.specs.Prelude.{◌≡◌, refl, ℕ, true, false, List, [], ◌∷◌, ◌++◌, codes}
use Rattle.std.specs.Fmt.{digits}
use Rattle.vcm_plain.specs.declared.unit.Unit.TheVariants.{Millimetre, Inch, Foot}
use Rattle.vcm_functions.specs.Values.{root}
use Rattle.vcm_functions.specs.Calls.{pass}
use Rattle.vcm_functions.specs.Relations.{opened_text}
use Rattle.vcm_functions.specs.Folded.{has_function}
use Rattle.vcm_plain.specs.Numbers.{unread, lone_from, component}
use Rattle.vcm_plain.specs.Fine.{exact_text, has_fine}
use Rattle.vcm_plain.specs.Units.{all_in, from_unit}
use Rattle.vcm_plain.specs.Plain.{plain}

-- a field is written like this
abbrev Gives : List ℕ → List ℕ → Type 0
Gives field written = exact_text field ≡ written

-- a field stays as it is written
abbrev Stays : List ℕ → Type 0
Stays field = exact_text field ≡ field

-- ---- numbers that are written as quotients

pub inch : Gives (codes "I*0.0254") (codes "I*(0.254/10)")
unfolding digits
inch = refl

pub turn : Gives (codes "3.14159265*2") (codes "(314159.265/100000)*2")
unfolding digits
turn = refl

pub relation : Gives (codes "(R .GT. 1.00005)") (codes "(R .GT. (100.005/100))")
unfolding digits
relation = refl

pub before_operator : Gives (codes "1.2345.GT.2") (codes "(12.345/10).GT.2")
unfolding digits
before_operator = refl

pub behind_operator : Gives (codes "X.GT.1.2345") (codes "X.GT.(12.345/10)")
unfolding digits
behind_operator = refl

pub negated : Gives (codes ".NOT.X.LT.-1.2345") (codes ".NOT.X.LT.-(12.345/10)")
unfolding digits
negated = refl

pub no_digit_before : Gives (codes "X*.00005") (codes "X*(0.005/100)")
unfolding digits
no_digit_before = refl

pub zeros_behind : Gives (codes "X*0.025400") (codes "X*(25.400/1000)")
unfolding digits
zeros_behind = refl

pub nine_decimals : Gives (codes "0.123456789") (codes "(123456.789/1000000)")
unfolding digits
nine_decimals = refl

-- blanks within a number stand for nothing
pub blanks : Gives (codes "X * 0.02 54 + Y") (codes "X * (0.254/10)+ Y")
unfolding digits
blanks = refl

pub behind_text : Gives (codes "'1.2345'+1.2345") (codes "'1.2345'+(12.345/10)")
unfolding digits
behind_text = refl

-- ---- what stays

pub three_decimals : Stays (codes "I*25.400-0.001")
three_decimals = refl

pub zeros_alone : Stays (codes "I*0.50000")
zeros_alone = refl

pub ten_decimals : Stays (codes "0.1234567891")
ten_decimals = refl

pub too_large : Stays (codes "123456789012.12345")
too_large = refl

pub quoted : Stays (codes "'1.2345 AND 2.34567'")
quoted = refl

pub exponent : Stays (codes "1.2345E-3")
exponent = refl

pub spaced_exponent : Stays (codes "1.2345 E-3")
spaced_exponent = refl

pub word_with_digits : Stays (codes "A1.2345+3D.23456")
word_with_digits = refl

pub whole_before_operator : Stays (codes "1.EQ.2")
whole_before_operator = refl

-- ---- texts

-- a statement on a line of its own
abbrev line : List ℕ → List ℕ
line bs = bs ++ 10 ∷ []

pub assigned : plain (all_in Millimetre) (line (codes "R=ASSIGN/I*0.0254")) ≡ line (codes "R=ASSIGN/I*(0.254/10)")
unfolding digits has_function
assigned = refl

pub assigned_in_inches : plain (all_in Inch) (line (codes "R=ASSIGN/0.0254")) ≡ line (codes "R=ASSIGN/(0.254/10)")
unfolding digits has_function
assigned_in_inches = refl

pub moved : plain (all_in Millimetre) (line (codes "GOTO/X*0.70711,20.0005,5")) ≡ line (codes "GOTO/X*(70.711/100),20.001,5")
unfolding digits has_function
moved = refl

-- functions
pub rooted : plain (all_in Millimetre) (line (codes "GOTO/SQRT(200.0),0,0")) ≡ line (codes "GOTO/(1414213.562/100000),0,0")
unfolding digits has_function pass opened_text root
rooted = refl

pub nested : plain (all_in Inch) (line (codes "R=ASSIGN/SIN(DTOR(30))")) ≡ line (codes "R=ASSIGN/0.5")
unfolding digits has_function pass opened_text root
nested = refl

pub opened : plain (all_in Millimetre) (line (codes "IF/(ABS(DEV).GT.ZLIM)")) ≡ line (codes "IF/(((DEV).GT.ZLIM.OR.(0-(DEV)).GT.ZLIM))")
unfolding digits has_function pass opened_text root
opened = refl

-- a field that is broken in two, and statements without expressions
pub broken : plain (all_in Millimetre) (codes "R=ASSIGN/I*0.0254$" ++ 10 ∷ codes "+1") ≡ codes "R=ASSIGN/I*0.0254$" ++ 10 ∷ codes "+1"
broken = refl

pub in_two_units : plain (from_unit Inch) (line (codes "UNITS/INCH,ANGDEC") ++ line (codes "GOTO/1,2,3") ++ line (codes "UNITS/MM,ANGDEC") ++ line (codes "GOTO/1,2,3"))
    ≡ line (codes "UNITS/MM,ANGDEC") ++ line (codes "GOTO/25.400,50.800,76.200") ++ line (codes "UNITS/MM,ANGDEC") ++ line (codes "GOTO/1,2,3")
unfolding digits
in_two_units = refl

-- expressions of lengths in another unit are converted, words are not, and neither are directions and angles
pub in_inches : plain (all_in Inch) (line (codes "PTMEAS/CART,X,Y+1,1.5,0,0,1")) ≡ line (codes "PTMEAS/CART,(X)*25.4,(Y+1)*25.4,38.100,0.000,0.000,1.000")
unfolding digits has_function
in_inches = refl

pub shifted_in_feet : plain (all_in Foot) (line (codes "D(A)=TRANS/XORIG,2*R,ZORIG,1")) ≡ line (codes "D(A)=TRANS/XORIG,(2*R)*304.8,ZORIG,304.800")
unfolding digits has_function
shifted_in_feet = refl

pub stepped : plain (all_in Inch) (line (codes "GOTO/INCR,2,0,-1,0")) ≡ line (codes "GOTO/INCR,50.800,0.000,-1.000,0.000")
unfolding digits
stepped = refl

pub turned : plain (all_in Inch) (line (codes "GOTO/POL,2,45,1")) ≡ line (codes "GOTO/POL,50.800,45,25.400")
unfolding digits
turned = refl

pub plane : plain (all_in Inch) (line (codes "F(A)=FEAT/PLANE,CART,1,2,3,0,0,1")) ≡ line (codes "F(A)=FEAT/PLANE,CART,25.400,50.800,76.200,0.000,0.000,1.000")
unfolding digits
plane = refl

-- a small component of a direction counts from 0.00004 on
abbrev component_of : List ℕ → ℕ
component_of bs = component (lone_from unread bs)

pub along_an_axis : component_of (codes "-0.000039") ≡ 0
along_an_axis = refl

pub slanted : component_of (codes "0.00004") ≡ 1
slanted = refl

pub leaning : component_of (codes "0.0003") ≡ 1
leaning = refl

pub nearest : component_of (codes "-0.57735") ≡ 577
nearest = refl

-- a field that is broken in two isn't converted
pub broken_in_inches : plain (all_in Inch) (codes "GOTO/X$" ++ 10 ∷ codes "+1,2,3") ≡ codes "GOTO/*X$" ++ 10 ∷ codes "*+1,50.800,76.200"
unfolding digits
broken_in_inches = refl

pub silent : plain (all_in Millimetre) (line (codes "T(A)=TOL/POS,0.0125")) ≡ line (codes "T(A)=TOL/POS,0.0125")
silent = refl

-- ---- whether there is such a number

pub found : has_fine (codes "X*0.0254") ≡ true
found = refl

pub not_found : has_fine (codes "X*0.025+1000.5") ≡ false
not_found = refl
