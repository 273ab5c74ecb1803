-- Expressions in a listing: their items between brackets.
use Rattle.std.specs.Prelude.{ℕ, ◌==◌, ◌^◌, Bool, true, false, List, [], ◌∷◌, length, Option, decimal, codes}
use Rattle.std.specs.Fmt.{signed_decimal}
use Rattle.vcm_spec.specs.declared.expression.Operand.{Operand}
use Rattle.vcm_spec.specs.declared.expression.Operand.TheVariants.{Integer, Thousandths, Truth, Variable}
use Rattle.vcm_spec.specs.declared.expression.UnaryOp.{UnaryOp}
use Rattle.vcm_spec.specs.declared.expression.UnaryOp.TheVariants.{Neg, Scale, Not}
use Rattle.vcm_spec.specs.declared.expression.Relation.TheVariants.{Equal, NotEqual, Less, LessEqual, Greater, GreaterEqual}
use Rattle.vcm_spec.specs.declared.expression.BinaryOp.{BinaryOp}
use Rattle.vcm_spec.specs.declared.expression.BinaryOp.TheVariants.{Add, Sub, Mul, Div, And, Or, Compare}
use Rattle.vcm_spec.specs.declared.expression.Item.{Item}
use Rattle.vcm_spec.specs.declared.expression.Item.TheVariants.{Push, Apply, Combine}
use Rattle.vcm_fields.specs.Readers.{within}
use Rattle.vcm_words.specs.Numbers.{number, signed, counted}
use Rattle.vcm_num.specs.Words.{look_up}
use Rattle.vcm_words.specs.WordReaders.{Reader, marked, or_else, tested, rows_of}
use Rattle.vcm_words.specs.Enclosed.{closed, opened, between}
use Rattle.std.specs.Option.{option_map}
use Rattle.vcm_num.specs.declared.limits.TheConstants.{MOST_ITEMS}

-- ---- writing

-- a truth value: B0 or B1
abbrev pub truth_text : Bool → List ℕ
truth_text false = codes "B0"
truth_text true = codes "B1"

-- a leaf: I and a whole number, R and thousandths, a truth value, or V and the index of a variable
abbrev pub operand_text : Operand → List ℕ
operand_text (Integer n) = 73 ∷ signed_decimal n
operand_text (Thousandths n) = 82 ∷ signed_decimal n
operand_text (Truth b) = truth_text b
operand_text (Variable v) = 86 ∷ decimal v

-- the word of an operator on one value
abbrev pub unary_text : UnaryOp → List ℕ
unary_text Neg = codes "NEG"
unary_text Scale = codes "SCALE"
unary_text Not = codes "NOT"

-- the word of an operator on two values
abbrev pub binary_text : BinaryOp → List ℕ
binary_text Add = codes "ADD"
binary_text Sub = codes "SUB"
binary_text Mul = codes "MUL"
binary_text Div = codes "DIV"
binary_text And = codes "AND"
binary_text Or = codes "OR"
binary_text (Compare Equal) = codes "EQ"
binary_text (Compare NotEqual) = codes "NE"
binary_text (Compare Less) = codes "LT"
binary_text (Compare LessEqual) = codes "LE"
binary_text (Compare Greater) = codes "GT"
binary_text (Compare GreaterEqual) = codes "GE"

-- an item
abbrev pub item_text : Item → List ℕ
item_text (Push x) = operand_text x
item_text (Apply op) = unary_text op
item_text (Combine op) = binary_text op

-- an expression's words: [I20 SCALE]
abbrev pub expression : List Item → List (List ℕ)
expression items = opened 91 (closed 93 item_text items)

-- ---- reading

-- the operators
abbrev pub operators : List Item
operators =
    Apply Neg ∷ Apply Scale ∷ Apply Not ∷ Combine Add ∷ Combine Sub ∷ Combine Mul ∷ Combine Div ∷ Combine And ∷ Combine Or
    ∷ Combine (Compare Equal) ∷ Combine (Compare NotEqual) ∷ Combine (Compare Less) ∷ Combine (Compare LessEqual) ∷ Combine (Compare Greater)
    ∷ Combine (Compare GreaterEqual) ∷ []

-- the truth value of 0 or 1
abbrev pub truth_of : ℕ → Bool
truth_of n = n == 1

-- the leaf that a word is, by its first letter
unfoldable pub operand_in : Bool → List ℕ → Option Operand
operand_in exact w =
    or_else (option_map Integer (marked 73 (signed exact) w))
    (or_else (option_map Thousandths (marked 82 (signed exact) w))
    (or_else (option_map (λ n. Truth (truth_of n)) (marked 66 (number exact 2) w))
    (option_map Variable (marked 86 (number exact (2 ^ 16)) w))))

-- the item that a word is
unfoldable pub item_in : Bool → List ℕ → Option Item
item_in exact w = or_else (look_up (rows_of item_text operators) w) (option_map Push (operand_in exact w))

-- an expression: 1 to 1,024 items between brackets
unfoldable pub expression_at : Bool → Reader (List Item)
expression_at exact = tested (λ is. counted exact (within 1 MOST_ITEMS (length is))) (between 91 93 (item_in exact))
