-- Expressions that are made, and not read.
use Rattle.std.specs.Prelude.{ℤ, pos, negsuc, suc, if◌then◌else◌, Option, Some, None}
use Rattle.vcm_num.specs.declared.number.Literal.{Literal}
use Rattle.vcm_num.specs.declared.number.Literal.TheVariants.{Int, Thousandths}
use Rattle.vcm_spec.specs.declared.expression.BinaryOp.{BinaryOp}
use Rattle.vcm_spec.specs.declared.expression.BinaryOp.TheVariants.{Sub}
use Rattle.vcm_expr.specs.declared.expression.Term.{Term}
use Rattle.vcm_expr.specs.declared.expression.Term.TheVariants.{Number}
use Rattle.vcm_expr.specs.Source.{Source, Plain, Pair, is_small}

-- an operator on two expressions, where that isn't too large
abbrev pub joined : BinaryOp → Source → Source → Option Source
joined op a b = if is_small (Pair op a b) then Some (Pair op a b) else None

-- an operator on two leaves
abbrev pub pair : BinaryOp → Term → Term → Source
pair op a b = Pair op (Plain a) (Plain b)

-- a number that is none below zero, as it is written
abbrev pub literal : (ℤ → Literal) → ℤ → Source
literal kind n = Plain (Number (kind n))

-- a number: below zero it is what is taken from 0, since the numbers of the language have no sign
abbrev pub signed : (ℤ → Literal) → ℤ → Source
signed kind (pos n) = literal kind (pos n)
signed kind (negsuc n) = Pair Sub (literal kind (pos 0)) (literal kind (pos (suc n)))

-- a whole number
abbrev pub whole_of : ℤ → Source
whole_of n = signed Int n

-- a length, in micrometres
abbrev pub length_of : ℤ → Source
length_of n = signed Thousandths n
