-- Items as they are kept.
use Rattle.vcm_spec.specs.declared.expression.Item.{Item}
use Rattle.vcm_spec.specs.declared.expression.Item.TheVariants.{Push, Apply, Combine}
use Rattle.vcm_spec.specs.declared.expression.Operand.TheVariants.{Integer, Thousandths, Truth, Variable}
use Rattle.vcm_expr.specs.declared.packed.FlatItem.{FlatItem}
use Rattle.vcm_expr.specs.declared.packed.FlatItem.TheVariants as flat

-- the item that is kept so
abbrev pub item_of : FlatItem → Item
item_of (flat.Integer n) = Push (Integer n)
item_of (flat.Thousandths n) = Push (Thousandths n)
item_of (flat.Truth b) = Push (Truth b)
item_of (flat.Variable v) = Push (Variable v)
item_of (flat.Apply op) = Apply op
item_of (flat.Combine op) = Combine op

-- how an item is kept
abbrev pub flat_of : Item → FlatItem
flat_of (Push (Integer n)) = flat.Integer n
flat_of (Push (Thousandths n)) = flat.Thousandths n
flat_of (Push (Truth b)) = flat.Truth b
flat_of (Push (Variable v)) = flat.Variable v
flat_of (Apply op) = flat.Apply op
flat_of (Combine op) = flat.Combine op
