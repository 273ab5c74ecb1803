-- Places and directions in the fields of statements.
use Rattle.std.specs.Prelude.{ℕ, ℤ, pos, negsuc, ◌+ℤ◌, ◌*ℤ◌, ◌-ℤ◌, int_le, ◌&&◌, ◌||◌, Bool, true, false, codes, if◌then◌else◌, List, [], ◌∷◌, Option, Some, None, Result, Ok, Err}
use Rattle.std.specs.Ordering.{int_eq}
use Rattle.std.specs.List.{list_any}
use Rattle.std.specs.Str.{bytes_eq}
use Rattle.vcm_num.specs.declared.axis.Axis.{Axis}
use Rattle.vcm_num.specs.declared.axis.Axis.TheVariants.{PlusX, MinusX, PlusY, MinusY, PlusZ, MinusZ}
use Rattle.vcm_num.specs.declared.number.Literal.{Literal}
use Rattle.vcm_num.specs.declared.number.Literal.TheVariants.{Int, Thousandths}
use Rattle.vcm_lines.specs.declared.fault.FaultCode.{FaultCode}
use Rattle.vcm_lines.specs.declared.phrase.Cutter.TheVariants.{AtComma}
use Rattle.vcm_lines.specs.Lexemes.{Lexeme, Run}
use Rattle.vcm_lines.specs.Cuts.{before, after}
use Rattle.vcm_expr.specs.declared.expression.Term.TheVariants.{Number}
use Rattle.vcm_expr.specs.declared.expression.Prefix.TheVariants.{Minus}
use Rattle.vcm_expr.specs.declared.expression.Piece.{Piece}
use Rattle.vcm_expr.specs.declared.expression.Piece.TheVariants.{Front, Number as Digits}
use Rattle.vcm_expr.specs.Source.{Source, Plain, parts}
use Rattle.vcm_expr.specs.Parsing.{expr_of}
use Rattle.vcm_forms.specs.declared.statement.Coordinates.{Coordinates}
use Rattle.vcm_forms.specs.declared.statement.Form.{Form}
use Rattle.vcm_heads.specs.declared.heads.Mark.TheVariants as marks
use Rattle.vcm_heads.specs.Steps.{◌>>=◌}
use Rattle.vcm_heads.specs.Heads.{past, past_word, found_or}
use Rattle.vcm_events.specs.declared.spots.Spot.{Spot}
use Rattle.vcm_events.specs.declared.spots.Spot.TheVariants.{Step, Back}
use Rattle.vcm_events.specs.Spots.{spotted, slanted}
use Rattle.vcm_events.specs.Unknown.{unknown_place}

-- ---- places

-- an expression that was read
abbrev pub read_in : Result Source FaultCode → Option Source
read_in (Ok e) = Some e
read_in (Err c) = None

-- an expression with the fields behind it
abbrev pub with_fields : Option (List Lexeme) → Option Source → Option (Source × Option (List Lexeme))
with_fields fields None = None
with_fields fields (Some e) = Some (e, fields)

-- the expression that the first of fields is, and the fields behind it
abbrev pub expression_at : Option (List Lexeme) → Option (Source × Option (List Lexeme))
expression_at None = None
expression_at (Some ws) = with_fields (after AtComma ws) (read_in (expr_of (before AtComma ws)))

-- the place that the first three fields are, and the fields behind it
abbrev pub place_at : Option (List Lexeme) → Option (Coordinates × Option (List Lexeme))
place_at fields = do
  x ← expression_at fields
  y ← expression_at x.1
  z ← expression_at y.1
  Some (record { x = x.0; y = y.0; z = z.0 }, z.1)

-- the fields behind the word CART
abbrev pub behind_cart : List Lexeme → Option (List Lexeme)
behind_cart fields = do
  rest ← past_word (codes "CART") fields
  past marks.Comma rest

-- the fields behind a major word, without the word CART that they may begin with
abbrev pub cartesian : List Lexeme → Option (List Lexeme)
cartesian behind = do
  fields ← past marks.Slash behind
  Some (found_or fields (behind_cart fields))

-- a place with no field behind it, else one that isn't known
abbrev pub lone_place : Option (Coordinates × Option (List Lexeme)) → Coordinates
lone_place (Some (p, None)) = p
lone_place p = unknown_place

-- the place that a statement gives, as FROM/x,y,z and GOTARG/x,y,z do
abbrev pub place_given : List Lexeme → Coordinates
place_given behind = lone_place (place_at (cartesian behind))

-- ---- directions

-- whether a number lies from 0 to 1000
abbrev pub is_part : ℤ → Bool
is_part n = int_le (pos 0) n && int_le n (pos 1000)

-- a number from 0 to 1 in thousandths
abbrev pub thousandths : Literal → Option ℤ
thousandths (Int n) = if int_eq n (pos 0) then Some (pos 0) else if int_eq n (pos 1) then Some (pos 1000) else None
thousandths (Thousandths n) = if is_part n then Some n else None

-- and below zero
abbrev pub negative : Option ℤ → Option ℤ
negative None = None
negative (Some n) = Some (pos 0 -ℤ n)

-- whether parts of an expression are a minus and nothing behind it
abbrev pub is_minus : List Piece → Bool
is_minus (Front Minus ∷ []) = true
is_minus ps = false

-- a number with these parts behind it: none, or a minus
abbrev pub component_behind : Literal → List Piece → Option ℤ
component_behind l [] = thousandths l
component_behind l (p ∷ ps) = if is_minus (p ∷ ps) then negative (thousandths l) else None

-- a component of a direction, in thousandths
abbrev pub component_in : List Piece → Option ℤ
component_in [] = None
component_in (Digits l ∷ ps) = component_behind l ps
component_in (p ∷ ps) = None

-- the component that the first of fields is, and the fields behind it
abbrev pub component_at : Option (List Lexeme) → Option (ℤ × Option (List Lexeme))
component_at fields = do
  e ← expression_at fields
  n ← component_in (parts e.0)
  Some (n, e.1)

-- a direction, where no field stands behind it
abbrev pub if_last : ℤ → ℤ → ℤ × Option (List Lexeme) → Option (ℤ × ℤ × ℤ)
if_last i j (k, None) = Some (i, j, k)
if_last i j k = None

-- the direction that three fields are, the last ones
abbrev pub direction_at : Option (List Lexeme) → Option (ℤ × ℤ × ℤ)
direction_at fields = do
  i ← component_at fields
  j ← component_at i.1
  k ← component_at j.1
  if_last i.0 j.0 k

-- whether two components are 0
abbrev pub are_none : ℤ → ℤ → Bool
are_none a b = int_eq a (pos 0) && int_eq b (pos 0)

-- the axis with this component alone, if it is 1 or -1
abbrev pub axis_by : Axis → Axis → ℤ → Option Axis
axis_by plus minus n = if int_eq n (pos 1000) then Some plus else if int_eq n (negsuc 999) then Some minus else None

-- the axis that a direction goes along, if it does
abbrev pub axis_of : ℤ × ℤ × ℤ → Option Axis
axis_of d =
    if are_none d.1 d.2 then axis_by PlusX MinusX d.0
    else if are_none d.0 d.2 then axis_by PlusY MinusY d.1
    else if are_none d.0 d.1 then axis_by PlusZ MinusZ d.2
    else None

-- whether squares come to 1, as far as thousandths tell
abbrev pub come_to_one : (a b c : ℤ) → Bool
come_to_one a b c = int_le (pos 998000) ((a +ℤ b) +ℤ c) && int_le ((a +ℤ b) +ℤ c) (pos 1002000)

-- whether a direction has the length 1
abbrev pub is_unit : ℤ × ℤ × ℤ → Bool
is_unit d = come_to_one (d.0 *ℤ d.0) (d.1 *ℤ d.1) (d.2 *ℤ d.2)

-- ---- steps

-- nothing along an axis
abbrev pub nothing : Source
nothing = Plain (Number (Int (pos 0)))

-- a step of a length along an axis
abbrev pub stepped : Source → Axis → Form
stepped e PlusX = spotted Step (record { x = e; y = nothing; z = nothing })
stepped e MinusX = spotted Back (record { x = e; y = nothing; z = nothing })
stepped e PlusY = spotted Step (record { x = nothing; y = e; z = nothing })
stepped e MinusY = spotted Back (record { x = nothing; y = e; z = nothing })
stepped e PlusZ = spotted Step (record { x = nothing; y = nothing; z = e })
stepped e MinusZ = spotted Back (record { x = nothing; y = nothing; z = e })

-- the fields behind the word INCR
abbrev pub incremental : List Lexeme → Option (List Lexeme)
incremental behind = do
  fields ← past marks.Slash behind
  rest ← past_word (codes "INCR") fields
  past marks.Comma rest

-- the step of GOTO/INCR,d,i,j,k, where that goes along an axis
abbrev pub step_at : List Lexeme → Option Form
step_at behind = do
  fields ← incremental behind
  e ← expression_at (Some fields)
  d ← direction_at e.1
  axis ← axis_of d
  Some (stepped e.0 axis)

-- ---- slanted points

-- a slanted point, if its direction has the length 1
abbrev pub slanted_by : Coordinates → ℤ × ℤ × ℤ → Option Form
slanted_by p d = if is_unit d then Some (slanted p d.0 d.1 d.2) else None

-- the slanted point of PTMEAS/CART,x,y,z,i,j,k
abbrev pub slant_at : List Lexeme → Option Form
slant_at behind = do
  p ← place_at (cartesian behind)
  d ← direction_at p.1
  slanted_by p.0 d

-- ---- planes

-- a place and the axis that a direction goes along, if it does
abbrev pub along_axis : Coordinates → Option Axis → Option (Coordinates × Axis)
along_axis p None = None
along_axis p (Some axis) = Some (p, axis)

-- the fields behind the word PLANE, without the word CART that they may begin with
abbrev pub behind_plane : List Lexeme → Option (List Lexeme)
behind_plane behind = do
  fields ← past marks.Slash behind
  rest ← past_word (codes "PLANE") fields
  place ← past marks.Comma rest
  Some (found_or place (behind_cart place))

-- the place and the axis of FEAT/PLANE,CART,x,y,z,i,j,k
abbrev pub plane_at : List Lexeme → Option (Coordinates × Axis)
plane_at behind = do
  p ← place_at (behind_plane behind)
  d ← direction_at p.1
  along_axis p.0 (axis_of d)

-- the same, where it is asked for
abbrev pub plane_if : Bool → List Lexeme → Option (Coordinates × Axis)
plane_if true behind = plane_at behind
plane_if false behind = None

-- ---- tables and heads

-- whether a word speaks of a rotary table
abbrev pub is_table_word : Lexeme → Bool
is_table_word (Run w) = bytes_eq w (codes "ROTAB") || bytes_eq w (codes "RT")
is_table_word w = false

-- whether one of the words does
abbrev pub names_table : List Lexeme → Bool
names_table ws = list_any is_table_word ws

-- whether a word speaks of a head that turns, or of another sensor
abbrev pub is_head_word : Lexeme → Bool
is_head_word (Run w) =
    bytes_eq w (codes "HEAD") || (bytes_eq w (codes "HEADCS") || (bytes_eq w (codes "PCS") || (bytes_eq w (codes "PROBEL")
    || (bytes_eq w (codes "ANGLE") || (bytes_eq w (codes "W") || (bytes_eq w (codes "S") || bytes_eq w (codes "SA")))))))
is_head_word w = false

-- whether one of the words does
abbrev pub names_head : List Lexeme → Bool
names_head ws = list_any is_head_word ws
