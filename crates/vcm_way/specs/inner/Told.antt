-- Points that statements tell.
use Rattle.std.specs.Prelude.{List}
use Rattle.vcm_num.specs.declared.point.Point.{Point}
use Rattle.vcm_spec.specs.declared.expression.Item.{Item}
use Rattle.vcm_spec.specs.Effect.{machine_point}
use Rattle.vcm_spec.specs.Outcome.{Outcome, ◌>>=◌, calculated}
use Rattle.vcm_spec.specs.Value.{items_value}
use Rattle.vcm_spec.specs.World.{World}

-- the machine point of three expressions in a state of the machine, or the first fault
abbrev pub point_in : World → List Item → List Item → List Item → Outcome Point
point_in w a b c = do
  x ← calculated (items_value w.variables a)
  y ← calculated (items_value w.variables b)
  z ← calculated (items_value w.variables c)
  machine_point w x y z
