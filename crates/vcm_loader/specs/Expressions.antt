-- The expressions of a statement.
use Rattle.std.specs.Prelude.{List, [], ◌∷◌}
use Rattle.vcm_spec.specs.declared.expression.Item.{Item}
use Rattle.vcm_code.specs.Code.{Op}
use Rattle.vcm_code.specs.Shape.{Place, Said, over_operands}
use Rattle.vcm_code.specs.Shape as at

-- those of a place
abbrev pub place_expressions : (p : Place) → Said p → List (List Item)
place_expressions (at.items k) e = e ∷ []
place_expressions (at.three k) t = t.0 ∷ t.1.0 ∷ t.1.1 ∷ []
place_expressions at.assigned o = o.1 ∷ []
place_expressions _ x = []

-- the expressions of a statement, in the order of its operands
abbrev pub expressions : Op → List (List Item)
expressions o = over_operands place_expressions o
