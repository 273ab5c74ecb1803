-- Polar places: a radius, an angle and a height, with cosines as whole numbers.
use Rattle.std.specs.Prelude.{ℕ, ℤ, pos, ◌+◌, ◌-◌, ◌*◌, ◌/◌, ◌%◌, ◌==◌, ◌-ℤ◌, int_le, unsigned_abs, ◌&&◌, Bool, true, false, codes, if◌then◌else◌, List, [], ◌∷◌, Option, Some, None}
use Rattle.vcm_num.specs.declared.axis.Axis.{Axis}
use Rattle.vcm_num.specs.declared.axis.Axis.TheVariants.{PlusZ, MinusZ}
use Rattle.vcm_num.specs.declared.number.Literal.{Literal}
use Rattle.vcm_num.specs.declared.number.Literal.TheVariants.{Int, Thousandths}
use Rattle.vcm_lines.specs.declared.phrase.Cutter.TheVariants.{AtComma}
use Rattle.vcm_lines.specs.Lexemes.{Lexeme, Run, Number, Minus}
use Rattle.vcm_lines.specs.Cuts.{before, after}
use Rattle.vcm_expr.specs.declared.expression.Piece.{Piece}
use Rattle.vcm_expr.specs.declared.expression.Piece.TheVariants.{Number as Digits}
use Rattle.vcm_expr.specs.Source.{parts}
use Rattle.vcm_forms.specs.declared.statement.Coordinates.{Coordinates}
use Rattle.vcm_forms.specs.declared.statement.Form.{Form}
use Rattle.vcm_forms.specs.declared.statement.Form.TheVariants.{Move, Touch}
use Rattle.vcm_functions.specs.Cosines.{cosine, part_of}
use Rattle.vcm_plain.specs.Numbers.{millionths_in}
use Rattle.vcm_events.specs.Joined.{length_of}
use Rattle.vcm_heads.specs.declared.heads.Mark.TheVariants as marks
use Rattle.vcm_heads.specs.Steps.{◌>>=◌}
use Rattle.vcm_heads.specs.Heads.{past, past_word}
use Rattle.vcm_said.specs.Places.{expression_at, direction_at, axis_of}

-- ---- places

-- the coordinate of a radius in the direction from which angles count, by the quarter of the turn and the angle in it
abbrev pub along_quarter : ℕ → ℕ → ℕ → ℤ
along_quarter r quarter a =
    if quarter == 0 then pos (part_of r (cosine a))
    else if quarter == 1 then pos 0 -ℤ pos (part_of r (cosine (90000000 - a)))
    else if quarter == 2 then pos 0 -ℤ pos (part_of r (cosine a))
    else pos (part_of r (cosine (90000000 - a)))

-- the same by an angle of less than a whole turn
unfoldable pub along : ℕ → ℕ → ℤ
along r a = along_quarter r (a / 90000000) (a % 90000000)

-- the coordinate across it: that along the direction three quarters further
unfoldable pub across : ℕ → ℕ → ℤ
across r a = along r ((a + 270000000) % 360000000)

-- ---- fields

-- a radius of ten metres at most, in micrometres
abbrev pub radius_of : Literal → Option ℕ
radius_of (Int n) = if int_le (pos 0) n && int_le n (pos 10000) then Some (1000 * unsigned_abs n) else None
radius_of (Thousandths n) = if int_le (pos 0) n && int_le n (pos 10000000) then Some (unsigned_abs n) else None

-- the radius that parts of an expression are: a number alone
abbrev pub radius_in : List Piece → Option ℕ
radius_in (Digits l ∷ []) = radius_of l
radius_in ps = None

-- an angle by a sign: what is left of a turn, below zero
abbrev pub signed_angle : Bool → ℕ → ℕ
signed_angle false a = a % 360000000
signed_angle true a = (360000000 - a % 360000000) % 360000000

-- the millionths of a word that is a number
abbrev pub word_millionths : Lexeme → Option ℕ
word_millionths (Run bs) = millionths_in bs
word_millionths (Number bs) = millionths_in bs
word_millionths w = None

-- an angle with a sign, if there is one
abbrev pub angle_of : Bool → Option ℕ → Option ℕ
angle_of negative None = None
angle_of negative (Some a) = Some (signed_angle negative a)

-- the millionths of a number that stands alone
abbrev pub lone_millionths : List Lexeme → Option ℕ
lone_millionths (w ∷ []) = word_millionths w
lone_millionths ws = None

-- the angle that words are, in millionths of a degree, less than a whole turn
abbrev pub angle_in : List Lexeme → Option ℕ
angle_in (Minus ∷ ws) = angle_of true (lone_millionths ws)
angle_in ws = angle_of false (lone_millionths ws)

-- the angle that the first of fields is, and the fields behind it
abbrev pub angle_at : Option (List Lexeme) → Option (ℕ × Option (List Lexeme))
angle_at None = None
angle_at (Some ws) = do
  a ← angle_in (before AtComma ws)
  Some (a, after AtComma ws)

-- the place that a radius, an angle and a height are, and the fields behind it
abbrev pub polar_at : Option (List Lexeme) → Option (Coordinates × Option (List Lexeme))
polar_at fields = do
  r ← expression_at fields
  n ← radius_in (parts r.0)
  a ← angle_at r.1
  h ← expression_at a.1
  Some (record { x = length_of (along n a.0); y = length_of (across n a.0); z = h.0 }, h.1)

-- the fields behind the word POL
abbrev pub behind_polar : List Lexeme → Option (List Lexeme)
behind_polar behind = do
  fields ← past marks.Slash behind
  rest ← past_word (codes "POL") fields
  past marks.Comma rest

-- ---- motions and points

-- the motion to a place with no field behind it
abbrev pub moved_to : Coordinates → Option (List Lexeme) → Option Form
moved_to p None = Some (Move p)
moved_to p (Some ws) = None

-- the motion of GOTO/POL,r,a,h
abbrev pub polar_motion : List Lexeme → Option Form
polar_motion behind = do
  fields ← behind_polar behind
  p ← polar_at (Some fields)
  moved_to p.0 p.1

-- a point along the height: any other direction behind a polar place is read in two ways, as one of the frame and as one of the place
abbrev pub touched_along : Coordinates → Option Axis → Option Form
touched_along p (Some PlusZ) = Some (Touch p (Some PlusZ))
touched_along p (Some MinusZ) = Some (Touch p (Some MinusZ))
touched_along p axis = None

-- a point with a direction
abbrev pub touched_toward : Coordinates → Option (ℤ × ℤ × ℤ) → Option Form
touched_toward p None = None
touched_toward p (Some d) = touched_along p (axis_of d)

-- a point with these fields behind its place
abbrev pub touched_at : Coordinates → Option (List Lexeme) → Option Form
touched_at p None = Some (Touch p None)
touched_at p (Some ws) = touched_toward p (direction_at (Some ws))

-- the point of PTMEAS/POL,r,a,h and PTMEAS/POL,r,a,h,i,j,k
abbrev pub polar_touch : List Lexeme → Option Form
polar_touch behind = do
  fields ← behind_polar behind
  p ← polar_at (Some fields)
  touched_at p.0 p.1
