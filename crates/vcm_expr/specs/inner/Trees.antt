-- Typed expressions as they are kept, and the trees that they are.
use Rattle.std.specs.Prelude.{◌≡◌, Bool, true, false, List, [], ◌∷◌, ◌++◌, Option, Some, Result, Ok}
use Rattle.vcm_num.specs.declared.number.Kind.{Kind}
use Rattle.vcm_lines.specs.declared.fault.FaultCode.{FaultCode}
use Rattle.vcm_spec.specs.declared.expression.Item.{Item}
use Rattle.vcm_spec.specs.declared.expression.Item.TheVariants.{Push, Apply}
use Rattle.vcm_spec.specs.declared.expression.Operand.TheVariants.{Truth}
use Rattle.vcm_spec.specs.declared.expression.UnaryOp.TheVariants.{Scale}
use Rattle.vcm_spec.specs.Expression.{Tree, Value, trees, spelling}
use Rattle.vcm_expr.specs.declared.typed.Kept.{Kept}
use Rattle.vcm_expr.specs.declared.typed.Kept.TheVariants.{Leaf, Scaled, Postfix}
use Rattle.vcm_expr.specs.Typing.{Kinded, kinded}

-- the topmost tree of a stack
abbrev pub topmost : Option (List Tree) → Tree
topmost (Some (t ∷ ts)) = t
topmost _ = Value (Truth false)

-- the items that are kept
abbrev pub items_of : Kept → List Item
items_of (Leaf x) = Push x ∷ []
items_of (Scaled x) = Push x ∷ Apply Scale ∷ []
items_of (Postfix v) = v.items

-- the tree that they spell
abbrev pub tree_of : Kept → Tree
tree_of k = topmost (trees (items_of k) [])

-- the item of a scaling, where there is one
abbrev pub scaling : Bool → List Item
scaling true = Apply Scale ∷ []
scaling false = []

-- a typed tree of this kind was spelled behind what stood before
pub record Spelled (typed : Result Kinded FaultCode) (before after : List Item) (k : Kind) : Type 0 where
  pub tree : Tree
  pub is : typed ≡ kinded tree k
  pub items : after ≡ before ++ spelling tree

-- the tree that its place wants is spelled now
pub record SpelledFor (wanted : Result Tree FaultCode) (after : List Item) : Type 0 where
  pub tree : Tree
  pub is : wanted ≡ Ok tree
  pub items : after ≡ spelling tree
