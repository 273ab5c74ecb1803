-- The one spelling of each part of a code.
use Rattle.std.specs.Prelude.{ℕ, Bool, true, false, ℤ, List, [], ◌∷◌, ◌++◌, length, Option, Some, None}
use Rattle.std.specs.List.{flat_map}
use Rattle.std.specs.Int.{w16, w32, w64, to_le_bytes, cast_unsigned}
use Rattle.vcm_num.specs.declared.number.Kind.{Kind}
use Rattle.vcm_num.specs.declared.number.Kind.TheVariants.{Int, Real, Bool as Truths}
use Rattle.vcm_spec.specs.declared.expression.Operand.{Operand}
use Rattle.vcm_spec.specs.declared.expression.Operand.TheVariants.{Integer, Thousandths, Truth, Variable}
use Rattle.vcm_spec.specs.declared.expression.UnaryOp.{UnaryOp}
use Rattle.vcm_spec.specs.declared.expression.UnaryOp.TheVariants.{Neg, Scale, Not}
use Rattle.vcm_spec.specs.declared.expression.BinaryOp.{BinaryOp}
use Rattle.vcm_spec.specs.declared.expression.BinaryOp.TheVariants.{Add, Sub, Mul, Div, And, Or, Compare}
use Rattle.vcm_spec.specs.declared.expression.Relation.TheVariants.{Equal, NotEqual, Less, LessEqual, Greater, GreaterEqual}
use Rattle.vcm_spec.specs.declared.expression.Item.{Item}
use Rattle.vcm_spec.specs.declared.expression.Item.TheVariants.{Push, Apply, Combine}
use Rattle.vcm_code.specs.declared.branch.Branch.{Branch}
use Rattle.vcm_spec.specs.Setup.{Variable as Entry}
use Rattle.vcm_fields.specs.declared.items.Tag.{Tag}
use Rattle.vcm_fields.specs.declared.items.Tag.TheVariants as tags
use Rattle.vcm_code.specs.Code.{Op, CodeStatement}
use Rattle.vcm_code.specs.Words.{word_of, word_byte}
use Rattle.vcm_code.specs.Shape.{Place, Said, over_operands}
use Rattle.vcm_code.specs.Shape as at
use Rattle.vcm_num.specs.declared.axis.Axis.{Axis}
use Rattle.vcm_num.specs.declared.axis.Axis.TheVariants.{PlusX, MinusX, PlusY, MinusY, PlusZ, MinusZ}
use Rattle.vcm_spec.specs.Words.{axis_number, quarters_number, word_number}
use Rattle.vcm_spec.specs.declared.words.Setting.{Setting}
use Rattle.vcm_spec.specs.declared.words.Setting.TheVariants.{Approach, Retract, Search, Depth}
use Rattle.vcm_spec.specs.declared.words.Source.{Source}
use Rattle.vcm_spec.specs.declared.words.Source.TheVariants.{Nominal, Actual}

-- a byte
abbrev pub byte : ℕ → List ℕ
byte n = n ∷ []

-- a number in two bytes
abbrev pub short : ℕ → List ℕ
short n = to_le_bytes w16 n

-- a number in four bytes
abbrev pub long : ℕ → List ℕ
long n = to_le_bytes w32 n

-- a number with its sign in eight bytes, as a two's complement
abbrev pub signed : ℤ → List ℕ
signed z = to_le_bytes w64 (cast_unsigned w64 z)

-- a truth value as a byte: 1 or 0
abbrev pub truth_byte : Bool → List ℕ
truth_byte false = byte 0
truth_byte true = byte 1

-- ---- items

-- an operand: its tag, and its value
abbrev pub operand : Operand → List ℕ
operand (Integer n) = 1 ∷ signed n
operand (Thousandths n) = 2 ∷ signed n
operand (Truth b) = 3 ∷ truth_byte b
operand (Variable v) = 4 ∷ short v

-- the tag of an operator on one value
abbrev pub unary : UnaryOp → ℕ
unary Neg = 16
unary Scale = 21
unary Not = 48

-- the tag of an operator on two values
abbrev pub binary : BinaryOp → ℕ
binary Add = 17
binary Sub = 18
binary Mul = 19
binary Div = 20
binary (Compare Equal) = 32
binary (Compare NotEqual) = 33
binary (Compare Less) = 34
binary (Compare LessEqual) = 35
binary (Compare Greater) = 36
binary (Compare GreaterEqual) = 37
binary And = 49
binary Or = 50

-- the byte of a tag
abbrev pub tag_byte : Tag → ℕ
tag_byte tags.Integer = 1
tag_byte tags.Thousandths = 2
tag_byte tags.Truth = 3
tag_byte tags.Variable = 4
tag_byte (tags.Unary op) = unary op
tag_byte (tags.Binary op) = binary op

-- an item: an operand, or the tag of an operator
abbrev pub item : Item → List ℕ
item (Push x) = operand x
item (Apply op) = byte (unary op)
item (Combine op) = byte (binary op)

-- an expression: the number of its items, and the items
abbrev pub expression : List Item → List ℕ
expression items = short (length items) ++ flat_map item items

-- ---- branches

-- a branch of a SELECT: its value, and its target
abbrev pub branch : Branch → List ℕ
branch b = signed b.value ++ long b.target

-- branches: how many they are, and each of them
abbrev pub branches : List Branch → List ℕ
branches bs = short (length bs) ++ flat_map branch bs

-- ---- names and texts

-- a name: its length, and its bytes
abbrev pub name : List ℕ → List ℕ
name bs = byte (length bs) ++ bs

-- a text: its length, and its bytes
abbrev pub text : List ℕ → List ℕ
text bs = short (length bs) ++ bs

-- ---- statements

-- the byte of the direction of a feature
abbrev pub axis_byte : Axis → ℕ
axis_byte PlusX = 0
axis_byte MinusX = 1
axis_byte PlusY = 2
axis_byte MinusY = 3
axis_byte PlusZ = 4
axis_byte MinusZ = 5

-- the byte of the direction of a measurement; 6 stands for the nominal feature's
abbrev pub direction_byte : Option Axis → ℕ
direction_byte (Some d) = axis_byte d
direction_byte None = 6

-- the byte of a setting of the probe
abbrev pub setting_byte : Setting → ℕ
setting_byte Approach = 0
setting_byte Retract = 1
setting_byte Search = 2
setting_byte Depth = 3

-- the byte that says whether the nominal or the actual feature is meant
abbrev pub source_byte : Source → ℕ
source_byte Nominal = 0
source_byte Actual = 1

-- three expressions
abbrev pub three : List Item → List Item → List Item → List ℕ
three x y z = expression x ++ (expression y ++ expression z)

-- what stands in a place
abbrev pub place : (p : Place) → Said p → List ℕ
place (at.variable k) n = short n
place at.feature n = short n
place at.frame n = short n
place at.pair n = byte n
place at.target n = long n
place (at.items k) e = expression e
place (at.three k) t = three t.0 t.1.0 t.1.1
place at.assigned o = short o.0 ++ expression o.1
place at.axis d = byte (axis_byte d)
place at.direction d = byte (direction_byte d)
place at.setting which = byte (setting_byte which)
place at.source which = byte (source_byte which)
place at.turn n = byte (axis_number n)
place at.quarters n = byte (quarters_number n)
place at.part n = byte (word_number n)
place at.text bs = text bs
place at.branches bs = branches bs

-- the operands of a statement
abbrev pub operands : Op → List ℕ
operands o = over_operands place o

-- the kind, the line, the operands
abbrev pub line : CodeStatement → List ℕ
line s = byte (word_byte (word_of s.op)) ++ (long s.line ++ operands s.op)

-- ---- tables

-- the byte of a kind
abbrev pub kind_byte : Kind → ℕ
kind_byte Int = 0
kind_byte Real = 1
kind_byte Truths = 2

-- a variable: its kind, its expansion, and its name
abbrev pub entry : Entry → List ℕ
entry v = byte (kind_byte v.kind) ++ (long v.expansion ++ name v.name)
