-- The words of the options.
use Rattle.std.specs.Prelude.{◌≡◌, ℕ, ℤ, pos, ◌*ℤ◌, ◌≤◌, ◌==◌, ◌||◌, ◌&&◌, Bool, IsTrue, nat_le, List, [], ◌∷◌, length, codes, Option, Some, None, Ok}
use Rattle.std.specs.Prelude.{if◌then◌else◌}
use Rattle.std.specs.List.{list_all, slice_split}
use Rattle.std.specs.Option.{option_and_then}
use Rattle.vcm_num.specs.declared.number.Literal.{Literal}
use Rattle.vcm_num.specs.declared.number.Literal.TheVariants.{Int, Thousandths}
use Rattle.vcm_num.specs.declared.point.Point.{Point}
use Rattle.vcm_num.specs.Point.{coordinate, is_near_zero}
use Rattle.vcm_num.specs.Literals.{Reads}
use Rattle.vcm_num.specs.Words.{look_up}
use Rattle.vcm_spec.specs.declared.words.FrameAxis.{FrameAxis}
use Rattle.vcm_spec.specs.declared.words.FrameAxis.TheVariants as axes
use Rattle.vcm_mesh.specs.declared.placing.LengthUnit.{LengthUnit}
use Rattle.vcm_mesh.specs.declared.placing.LengthUnit.TheVariants.{Millimetre, Inch}
use Rattle.vcm_mesh.specs.declared.placing.Turn.{Turn}
use Rattle.vcm_mesh.specs.Placings.{no_turn, then_quarter}
use Rattle.vcm_blocks.specs.declared.words.Quarters.{Quarters}
use Rattle.vcm_blocks.specs.declared.words.Quarters.TheVariants.{One, Two, Three}

-- the words of `--unit`
abbrev pub unit_words : List (List ℕ × LengthUnit)
unit_words = (codes "mm", Millimetre) ∷ (codes "inch", Inch) ∷ []

-- the angles of `--turn` in degrees, as quarter turns by the right-hand rule
abbrev pub angle_words : List (List ℕ × Quarters)
angle_words =
    (codes "90", One) ∷ (codes "180", Two) ∷ (codes "270", Three) ∷ (codes "-90", Three) ∷ (codes "-180", Two) ∷ (codes "-270", One) ∷ []

-- the axis that a letter names
abbrev pub axis_of : ℕ → Option FrameAxis
axis_of b =
    if (b == 120) || (b == 88) then Some axes.X
    else if (b == 121) || (b == 89) then Some axes.Y
    else if (b == 122) || (b == 90) then Some axes.Z
    else None

-- a turn, and then so many quarter turns about an axis of the machine
abbrev pub then_quarters : Quarters → FrameAxis → Turn → Turn
then_quarters One about t = then_quarter about t
then_quarters Two about t = then_quarter about (then_quarter about t)
then_quarters Three about t = then_quarter about (then_quarter about (then_quarter about t))

-- a turn, and then that of a letter and an angle, if they are such
abbrev pub turned_by : Turn → Option FrameAxis → Option Quarters → Option Turn
turned_by t (Some about) (Some n) = Some (then_quarters n about t)
turned_by t about n = None

-- a turn, and then the one that a word as `x90` spells
abbrev pub turned : Turn → List ℕ → Option Turn
turned t [] = None
turned t (b ∷ bs) = turned_by t (axis_of b) (look_up angle_words bs)

-- a turn, and then those of words from left to right
abbrev pub turned_all : Option Turn → List (List ℕ) → Option Turn
turned_all t [] = t
turned_all t (w ∷ ws) = turned_all (option_and_then (λ u. turned u w) t) ws

-- the words between commas
abbrev pub between_commas : List ℕ → List (List ℕ)
between_commas text = slice_split (λ b. b == 44) text

-- the turn that a word of `--turn` spells
abbrev pub turn_of : List ℕ → Option Turn
turn_of word = turned_all (Some no_turn) (between_commas word)

-- a number of millimetres in micrometres
abbrev pub micrometres : Literal → ℤ
micrometres (Int n) = n *ℤ pos 1000
micrometres (Thousandths n) = n

-- the word spells a number of millimetres with at most three decimals, which is so many micrometres: a kilometre at most, either way
pub record IsLength (word : List ℕ) (z : ℤ) : Type 0 where
  pub literal : Literal
  pub spelled : Reads word (Ok literal)
  pub is : z ≡ micrometres literal
  pub near : IsTrue (is_near_zero z)

-- three words between commas spell the coordinates of a point
pub record IsShift (word : List ℕ) (p : Point) : Type 0 where
  pub first : List ℕ
  pub second : List ℕ
  pub third : List ℕ
  pub cut : between_commas word ≡ first ∷ second ∷ third ∷ []
  pub x : IsLength first (coordinate p 0)
  pub y : IsLength second (coordinate p 1)
  pub z : IsLength third (coordinate p 2)

-- the word spells a number of blocks, from 1 to 4,096
pub record IsMost (word : List ℕ) (n : ℕ) : Type 0 where
  pub spelled : Reads word (Ok (Int (pos n)))
  pub some : 1 ≤ n
  pub few : n ≤ 4096

-- whether a name can be shown: 1 to 32 printable bytes
abbrev pub is_name : List ℕ → Bool
is_name name = nat_le 1 (length name) && nat_le (length name) 32 && list_all (λ b. nat_le 32 b && nat_le b 126) name

-- the name that a word is, if it can be shown
abbrev pub name_of : List ℕ → Option (List ℕ)
name_of word = if is_name word then Some word else None
