-- The widths that the fields of an image have, which their types keep in memory.
use Rattle.std.specs.Prelude.{◌<◌, ◌^◌, FitsSigned}
use Rattle.std.specs.List.{AllByRecursion}
use Rattle.std.specs.Int.{w64}
use Rattle.vcm_spec.specs.declared.expression.Operand.{Operand}
use Rattle.vcm_spec.specs.declared.expression.Operand.TheVariants.{Integer, Thousandths, Truth, Variable}
use Rattle.vcm_spec.specs.declared.expression.Item.{Item}
use Rattle.vcm_spec.specs.declared.expression.Item.TheVariants.{Push, Apply, Combine}
use Rattle.vcm_code.specs.declared.branch.Branch.{Branch}
use Rattle.vcm_code.specs.Code.{CodeStatement}
use Rattle.vcm_code.specs.declared.code.Code.{Code}
use Rattle.vcm_code.specs.Shape.{Place, Said, InOperands}
use Rattle.vcm_code.specs.Shape as at

-- a number has 64 bits with its sign, an index of a variable 16
abbrev pub FitsOperand : Operand → Type 0
FitsOperand (Integer n) = FitsSigned w64 n
FitsOperand (Thousandths n) = FitsSigned w64 n
FitsOperand (Truth b) = Unit {0}
FitsOperand (Variable v) = v < 2 ^ 16

-- an item: its operand does
abbrev pub FitsItem : Item → Type 0
FitsItem (Push x) = FitsOperand x
FitsItem (Apply op) = Unit {0}
FitsItem (Combine op) = Unit {0}

-- a branch: its value has 64 bits with its sign, its target 32
abbrev pub FitsBranch : Branch → Type 0
FitsBranch b = FitsSigned w64 b.value × (b.target < 2 ^ 32)

-- what stands in a place: indexes have 16 bits, targets 32, and so have those in items and branches
abbrev pub HasWidth : (p : Place) → Said p → Type 0
HasWidth (at.variable k) n = n < 2 ^ 16
HasWidth at.feature n = n < 2 ^ 16
HasWidth at.frame n = n < 2 ^ 16
HasWidth at.target n = n < 2 ^ 32
HasWidth (at.items k) e = AllByRecursion FitsItem e
HasWidth (at.three k) t = AllByRecursion FitsItem t.0 × AllByRecursion FitsItem t.1.0 × AllByRecursion FitsItem t.1.1
HasWidth at.assigned o = (o.0 < 2 ^ 16) × AllByRecursion FitsItem o.1
HasWidth at.branches bs = AllByRecursion FitsBranch bs
HasWidth _ x = Unit {0}

-- a statement: its source line has 32 bits, and its operands have their widths
abbrev pub LineHasWidths : CodeStatement → Type 0
LineHasWidths s = (s.line < 2 ^ 32) × InOperands HasWidth s.op

-- a code: the expansions of its variables have 32 bits, and its statements have their widths
pub record HasWidths (c : Code) : Type 0 where
  pub variables : AllByRecursion (λ v. v.expansion < 2 ^ 32) c.tables.variables
  pub statements : AllByRecursion LineHasWidths c.statements
