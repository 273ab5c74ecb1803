-- Number literals that stand for whole numbers: counts, angles, words of features and components of directions.
use Rattle.std.specs.Prelude.{ℤ, pos, negsuc, neg_ℤ, ◌*ℤ◌, ◌&&◌, ◌||◌, if◌then◌else◌, Bool, true, false, List, ◌∷◌, Option, Some, None, Result, Ok, Err}
use Rattle.std.specs.Ordering.{int_eq}
use Rattle.vcm_num.specs.declared.axis.Axis.{Axis}
use Rattle.vcm_num.specs.declared.axis.Axis.TheVariants.{PlusX, MinusX, PlusY, MinusY, PlusZ, MinusZ}
use Rattle.vcm_num.specs.declared.number.Fault.{Fault}
use Rattle.vcm_num.specs.declared.number.Literal.{Literal}
use Rattle.vcm_num.specs.declared.number.Literal.TheVariants.{Int, Thousandths}
use Rattle.vcm_num.specs.declared.read.NumFault.{NumFault}
use Rattle.vcm_num.specs.declared.read.NumFault.TheVariants as number
use Rattle.vcm_num.specs.Number.{checked}
use Rattle.vcm_lines.specs.declared.fault.FaultCode.{FaultCode}
use Rattle.vcm_lines.specs.declared.fault.FaultCode.TheVariants.{BadSyntax, TooFine, NumberTooLarge, NotQuarterTurn, NotAxis, Unsupported}
use Rattle.vcm_lines.specs.Lexemes.{Lexeme, Run, Number, Plus, Minus}
use Rattle.vcm_spec.specs.declared.words.Quarters.{Quarters}
use Rattle.vcm_spec.specs.declared.words.Quarters.TheVariants as turns
use Rattle.vcm_spec.specs.declared.words.FeatureWord.{FeatureWord}
use Rattle.vcm_spec.specs.declared.words.FeatureWord.TheVariants as words
use Rattle.vcm_expr.specs.Digits.{read_of}
use Rattle.vcm_syntax.specs.declared.figures.Figure.{Figure}
use Rattle.vcm_lines.specs.Fault.{or_fault}
use Rattle.vcm_syntax.specs.Readers.{alone, field}
use Rattle.vcm_spec.specs.Results.{◌>>=◌}

-- digits behind a sign, or what is wrong with them
abbrev pub figure_by : Bool → Result Literal NumFault → Result Figure FaultCode
figure_by minus (Ok x) = Ok (record { minus = minus; literal = x })
figure_by minus (Err number.BadNumber) = Err BadSyntax
figure_by minus (Err number.TooFine) = Err TooFine
figure_by minus (Err number.TooLarge) = Err NumberTooLarge

-- digits behind a sign, and the words behind them
abbrev pub digits_of : Bool → List Lexeme → Result (Figure × List Lexeme) FaultCode
digits_of minus (Run bs ∷ ws) = figure_by minus (read_of bs) >>= λ f. Ok (f, ws)
digits_of minus (Number bs ∷ ws) = figure_by minus (read_of bs) >>= λ f. Ok (f, ws)
digits_of minus _ = Err BadSyntax

-- a number literal with a sign or without, and the words behind it
abbrev pub figure_of : List Lexeme → Result (Figure × List Lexeme) FaultCode
figure_of (Minus ∷ ws) = digits_of true ws
figure_of (Plus ∷ ws) = digits_of false ws
figure_of ws = digits_of false ws

-- a number literal
abbrev pub component_of : List Lexeme → Result Figure FaultCode
component_of ws = do
  f ← figure_of ws
  alone f.0 f.1

-- a number that 64 bits hold, or a wrong form
abbrev pub or_bad : Result ℤ Fault → Result ℤ FaultCode
or_bad (Ok z) = Ok z
or_bad (Err e) = Err BadSyntax

-- the whole number that a figure is; one with decimals is none
abbrev pub integer_by : Bool → Literal → Result ℤ FaultCode
integer_by minus (Int n) = if minus then or_bad (checked (neg_ℤ n)) else Ok n
integer_by minus (Thousandths t) = Err BadSyntax

-- a whole number, with a sign or without
abbrev pub integer_of : List Lexeme → Result ℤ FaultCode
integer_of ws = do
  f ← figure_of ws
  z ← integer_by f.0.minus f.0.literal
  alone z f.1

-- whether a literal is this whole number; its decimals may be zeros
abbrev pub is_plain : Literal → ℤ → Bool
is_plain (Int m) n = int_eq m n
is_plain (Thousandths t) n = int_eq t (n *ℤ pos 1000)

-- whether a figure is this whole number
abbrev pub is_whole : Figure → ℤ → Bool
is_whole f n = is_plain f.literal (if f.minus then neg_ℤ n else n)

-- whether three figures are these whole numbers
abbrev pub are_whole : Figure → Figure → Figure → ℤ → ℤ → ℤ → Bool
are_whole x y z i j k = is_whole x i && (is_whole y j && is_whole z k)

-- the direction with these components, of which one is 1 or -1 and the others are 0
abbrev pub direction_by : Figure → Figure → Figure → Option Axis
direction_by x y z =
    if are_whole x y z (pos 1) (pos 0) (pos 0) then Some PlusX
    else if are_whole x y z (negsuc 0) (pos 0) (pos 0) then Some MinusX
    else if are_whole x y z (pos 0) (pos 1) (pos 0) then Some PlusY
    else if are_whole x y z (pos 0) (negsuc 0) (pos 0) then Some MinusY
    else if are_whole x y z (pos 0) (pos 0) (pos 1) then Some PlusZ
    else if are_whole x y z (pos 0) (pos 0) (negsuc 0) then Some MinusZ
    else None

-- a direction, its components in the first three fields
abbrev pub vector_of : List (List Lexeme) → Result Axis FaultCode
vector_of fs = do
  x ← (field fs 0 >>= component_of)
  y ← (field fs 1 >>= component_of)
  z ← (field fs 2 >>= figure_of)
  d ← or_fault NotAxis (direction_by x y z.0)
  alone d z.1

-- the quarter turns of an angle in degrees
abbrev pub quarters_by : Figure → Option Quarters
quarters_by f =
    if is_whole f (pos 0) then Some turns.Zero
    else if is_whole f (pos 90) || is_whole f (negsuc 269) then Some turns.One
    else if is_whole f (pos 180) || is_whole f (negsuc 179) then Some turns.Two
    else if is_whole f (pos 270) || is_whole f (negsuc 89) then Some turns.Three
    else None

-- an angle in degrees
abbrev pub angle_of : List Lexeme → Result Quarters FaultCode
angle_of ws = do
  f ← figure_of ws
  n ← or_fault NotQuarterTurn (quarters_by f.0)
  alone n f.1

-- the word of a feature with this number: 3 to 5 are its coordinates, 6 to 8 its direction
abbrev pub word_by : Figure → Option FeatureWord
word_by f =
    if is_whole f (pos 3) then Some words.X
    else if is_whole f (pos 4) then Some words.Y
    else if is_whole f (pos 5) then Some words.Z
    else if is_whole f (pos 6) then Some words.I
    else if is_whole f (pos 7) then Some words.J
    else if is_whole f (pos 8) then Some words.K
    else None

-- a word of a feature; other words are left out
abbrev pub feature_word_of : List Lexeme → Result FeatureWord FaultCode
feature_word_of ws = do
  f ← figure_of ws
  w ← or_fault Unsupported (word_by f.0)
  alone w f.1

-- something where a figure is 1, nothing where it isn't
abbrev pub one_by : Figure → Option (Unit {0})
one_by f = if is_whole f (pos 1) then Some tt else None

-- the count 1; other counts are left out
abbrev pub one_of : List Lexeme → Result (Unit {0}) FaultCode
one_of ws = do
  f ← figure_of ws
  u ← or_fault Unsupported (one_by f.0)
  alone u f.1
