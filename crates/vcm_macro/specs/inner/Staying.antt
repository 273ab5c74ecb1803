-- Arguments that say in an expansion what they say as they are written.
use Rattle.std.specs.Prelude.{ℕ, Bool, true, ◌==◌, List}
use Rattle.vcm_expr.specs.declared.expression.Piece.{Piece}
use Rattle.vcm_expr.specs.declared.expression.Piece.TheVariants.{Variable}
use Rattle.vcm_forms.specs.declared.statement.Argument.{Argument}
use Rattle.vcm_macro.specs.declared.staying.Given.{Given}
use Rattle.vcm_macro.specs.declared.staying.Given.TheVariants.{Written, Put}

-- the arguments that are given
abbrev pub given : Given → List Argument
given (Written written) = written.now
given (Put put) = put.items

-- whether a part is no variable of another expansion
abbrev pub is_here : ℕ → Piece → Bool
is_here n (Variable name e) = e == n
is_here n p = true
