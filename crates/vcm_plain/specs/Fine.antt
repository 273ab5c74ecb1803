-- Numbers with more than three decimals in expressions: each is written as a quotient of numbers that the language has.
use Rattle.std.specs.Prelude.{ℕ, suc, ◌+◌, ◌-◌, ◌*◌, ◌==◌, Bool, true, false, not, ◌&&◌, ◌||◌, nat_le, nat_lt, if◌then◌else◌, List, [], ◌∷◌, ◌++◌, decimal}
use Rattle.std.specs.Char.{is_ascii_digit, is_ascii_alphabetic}
use Rattle.vcm_num.specs.Texts.{size_text}
use Rattle.vcm_lines.specs.Bytes.{is_blank}
use Rattle.vcm_plain.specs.declared.lone.TheConstants.{MOST_BEFORE, MOST_VALUE}
use Rattle.vcm_plain.specs.declared.fine.TheConstants.{MOST_DECIMALS}
use Rattle.vcm_plain.specs.declared.fine.Class.{Class}
use Rattle.vcm_plain.specs.declared.fine.Class.TheVariants.{Digit, Letter, Point, Quote, Blank, Mark}
use Rattle.vcm_plain.specs.declared.fine.Stand.{Stand}
use Rattle.vcm_plain.specs.declared.fine.Stand.TheVariants.{Outside, Word, Dotted, Quoted, Whole, Pointed, Decimals}
use Rattle.vcm_plain.specs.Numbers.{power}

-- ---- where the reading of a field stands

-- what a byte is in an expression
abbrev pub class_of : ℕ → Class
class_of b =
    if is_ascii_digit b then Digit
    else if is_ascii_alphabetic b || b == 95 then Letter
    else if b == 46 then Point
    else if b == 39 then Quote
    else if is_blank b then Blank
    else Mark

-- where the reading stands behind a byte: blanks stand for nothing, and a point with a letter behind it begins a dotted word, as in 1.GT.2
abbrev pub stand_behind : Stand → Class → Stand
stand_behind Quoted Quote = Outside
stand_behind Quoted c = Quoted
stand_behind s Blank = s
stand_behind s Quote = Quoted
stand_behind s Mark = Outside
stand_behind Outside Digit = Whole
stand_behind Outside Letter = Word
stand_behind Outside Point = Pointed
stand_behind Word Point = Dotted
stand_behind Word c = Word
stand_behind Dotted Digit = Word
stand_behind Dotted Letter = Dotted
stand_behind Dotted Point = Outside
stand_behind Whole Digit = Whole
stand_behind Whole Letter = Word
stand_behind Whole Point = Pointed
stand_behind Pointed Digit = Decimals
stand_behind Pointed Letter = Dotted
stand_behind Pointed Point = Dotted
stand_behind Decimals Digit = Decimals
stand_behind Decimals Letter = Word
stand_behind Decimals Point = Dotted

-- whether a number is open
abbrev pub is_number : Stand → Bool
is_number Whole = true
is_number Pointed = true
is_number Decimals = true
is_number s = false

-- ---- numbers

-- a field as it is read: where the reading stands, and of the number that is open its bytes, its digits without the point, how many of them stand behind that,
-- and whether one behind the third isn't 0
pub record Figure : Type 0 where
  pub stand : Stand
  pub bytes : List ℕ
  pub value : ℕ
  pub places : ℕ
  pub fine : Bool

-- no number is open
abbrev pub none_open : Stand → Figure
none_open s = record { stand = s; bytes = []; value = 0; places = 0; fine = false }

-- a value behind one more digit; one that gets too large stays so
abbrev pub grown : ℕ → ℕ → ℕ
grown v d = if nat_lt v MOST_BEFORE then 10 * v + d else MOST_VALUE

-- how many decimals there are behind one more; those behind the tenth aren't counted
abbrev pub more_places : ℕ → ℕ
more_places n = if nat_le n MOST_DECIMALS then suc n else n

-- a number with one more byte, which is no digit
abbrev pub with_byte : Stand → Figure → ℕ → Figure
with_byte s n b = record n { stand = s; bytes = n.bytes ++ b ∷ [] }

-- a number with one more byte
abbrev pub longer : Stand → Class → Figure → ℕ → Figure
longer Whole Digit n b = record (with_byte Whole n b) { value = grown n.value (b - 48) }
longer Decimals Digit n b =
    record (with_byte Decimals n b) {
      value = grown n.value (b - 48);
      places = more_places n.places;
      fine = n.fine || (nat_le 3 n.places && not (b == 48));
    }
longer s c n b = with_byte s n b

-- whether a number is finer than the language's, and not too long
abbrev pub is_split : Figure → Bool
is_split n = n.fine && (nat_le n.places MOST_DECIMALS && nat_lt n.value MOST_VALUE)

-- a number of these digits with more than three decimals: the same digits with three decimals, by a power of ten
abbrev pub quotient : ℕ → ℕ → List ℕ
quotient value places = 40 ∷ size_text value ++ 47 ∷ decimal (power (places - 3)) ++ 41 ∷ []

-- a number that ends, as it is written
abbrev pub ended : Figure → List ℕ
ended n = if is_split n then quotient n.value n.places else n.bytes

-- the same where it ends at a byte: with a letter behind it it stays
abbrev pub ended_by : Class → Figure → List ℕ
ended_by Letter n = n.bytes
ended_by c n = ended n

-- ---- each byte

-- what is written at a byte that belongs to a number, or doesn't: the number that ends there, and the byte
abbrev pub out_by : Bool → Class → Figure → ℕ → List ℕ
out_by true c n b = []
out_by false c n b = ended_by c n ++ b ∷ []

-- and how the reading goes on
abbrev pub behind_by : Bool → Stand → Class → Figure → ℕ → Figure
behind_by true s c n b = longer s c n b
behind_by false s c n b = none_open s

-- the same by the byte alone
abbrev pub out_at : Figure → ℕ → List ℕ
out_at n b = out_by (is_number (stand_behind n.stand (class_of b))) (class_of b) n b

abbrev pub behind : Figure → ℕ → Figure
behind n b = behind_by (is_number (stand_behind n.stand (class_of b))) (stand_behind n.stand (class_of b)) (class_of b) n b

-- all bytes
abbrev pub exact_from : Figure → List ℕ → List ℕ
exact_from n [] = ended n
exact_from n (b ∷ bs) = out_at n b ++ exact_from (behind n b) bs

-- a field with each number that is finer than the language's as a quotient, where it stands by itself
abbrev pub exact_text : List ℕ → List ℕ
exact_text bs = exact_from (none_open Outside) bs

-- ---- fields without such numbers

-- how many digits stand behind the last point, and one more for the point; 0 where something else stands behind it
abbrev pub run_behind : ℕ → Class → ℕ
run_behind n Digit = if n == 0 then 0 else suc n
run_behind n Point = 1
run_behind n Blank = n
run_behind n c = 0

-- whether more than three digits stand behind a point, behind so many of them
abbrev pub has_run : ℕ → List ℕ → Bool
has_run n [] = false
has_run n (b ∷ bs) = nat_lt 4 (run_behind n (class_of b)) || has_run (run_behind n (class_of b)) bs

-- whether a field has a number with more than three decimals
abbrev pub has_fine : List ℕ → Bool
has_fine bs = has_run 0 bs
