-- How a model is placed on the machine: quarter turns, and then a shift.
use Rattle.std.specs.Prelude.{ℤ, ◌+ℤ◌, ◌-ℤ◌, if◌then◌else◌, Result, Ok, Err}
use Rattle.vcm_num.specs.declared.axis.Axis.{Axis}
use Rattle.vcm_num.specs.declared.axis.Axis.TheVariants.{PlusX, MinusX, PlusY, MinusY, PlusZ, MinusZ}
use Rattle.vcm_num.specs.Axis.{opposite}
use Rattle.vcm_num.specs.declared.point.Point.{Point}
use Rattle.vcm_num.specs.Point.{point, coordinate, is_near_zero}
use Rattle.vcm_spec.specs.declared.words.FrameAxis.{FrameAxis}
use Rattle.vcm_spec.specs.declared.words.FrameAxis.TheVariants as axes
use Rattle.vcm_spec.specs.Results.{◌>>=◌}
use Rattle.vcm_mesh.specs.declared.placing.Turn.{Turn}
use Rattle.vcm_mesh.specs.declared.placing.Placing.{Placing}
use Rattle.vcm_mesh.specs.declared.fault.Misread.{Misread}
use Rattle.vcm_mesh.specs.declared.fault.Misread.TheVariants.{TooFar}

-- a coordinate of a turned point: the one along a direction of the model
abbrev pub turned_to : Axis → Point → ℤ → ℤ
turned_to PlusX p more = more +ℤ coordinate p 0
turned_to MinusX p more = more -ℤ coordinate p 0
turned_to PlusY p more = more +ℤ coordinate p 1
turned_to MinusY p more = more -ℤ coordinate p 1
turned_to PlusZ p more = more +ℤ coordinate p 2
turned_to MinusZ p more = more -ℤ coordinate p 2

-- no turn
abbrev pub no_turn : Turn
no_turn = record { x = PlusX; y = PlusY; z = PlusZ }

-- a quarter turn about an axis of the machine after a turn, by the right-hand rule: about x it takes y to z, about y z to x, about z x to y
abbrev pub then_quarter : FrameAxis → Turn → Turn
then_quarter axes.X t = record { x = t.x; y = opposite t.z; z = t.y }
then_quarter axes.Y t = record { x = t.z; y = t.y; z = opposite t.x }
then_quarter axes.Z t = record { x = opposite t.y; y = t.x; z = t.z }

-- a coordinate that is at most a kilometre from 0
abbrev pub near : ℤ → Result ℤ Misread
near z = if is_near_zero z then Ok z else Err TooFar

-- the point of the machine at which a point of the model lies
abbrev pub placed : Placing → Point → Result Point Misread
placed p from = do
  x ← near (turned_to p.turn.x from (coordinate p.at 0))
  y ← near (turned_to p.turn.y from (coordinate p.at 1))
  z ← near (turned_to p.turn.z from (coordinate p.at 2))
  Ok (point x y z)
