-- The variables of typed expressions.
use Rattle.std.specs.Prelude.{ℕ, ◌<◌}
use Rattle.vcm_spec.specs.declared.expression.Operand.{Operand}
use Rattle.vcm_spec.specs.declared.expression.Operand.TheVariants.{Integer, Thousandths, Truth, Variable}
use Rattle.vcm_spec.specs.Expression.{Tree, Value, One, Two}

-- the leaf is no variable, or it is one of the first n
abbrev pub VariableBelow : ℕ → Operand → Type 0
VariableBelow n (Integer i) = Unit {0}
VariableBelow n (Thousandths i) = Unit {0}
VariableBelow n (Truth b) = Unit {0}
VariableBelow n (Variable v) = v < n

-- each variable of an expression has a place among so many
abbrev pub VariablesBelow : ℕ → Tree → Type 0
VariablesBelow n (Value x) = VariableBelow n x
VariablesBelow n (One op a) = VariablesBelow n a
VariablesBelow n (Two op a b) = VariablesBelow n a × VariablesBelow n b
