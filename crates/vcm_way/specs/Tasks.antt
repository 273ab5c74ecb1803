-- Where statements send the probe, and what they so add to the way.
use Rattle.std.specs.Prelude.{ℤ, List, [], Option}
use Rattle.vcm_num.specs.declared.point.Point.{Point}
use Rattle.vcm_num.specs.Point.{coordinate}
use Rattle.vcm_spec.specs.declared.stop.Stop.{Stop}
use Rattle.vcm_spec.specs.Frame.{direction}
use Rattle.vcm_spec.specs.Outcome.{Outcome, Gives, Stops, ◌>>=◌}
use Rattle.vcm_spec.specs.Simple.{Simple, evaluated}
use Rattle.vcm_spec.specs.declared.simple.Simple.TheVariants.{Goto, GoHome, PtMeas}
use Rattle.vcm_spec.specs.Value.{items_value}
use Rattle.vcm_spec.specs.Effect.{machine_point, measured_direction, value_in}
use Rattle.vcm_spec.specs.Touch.{centre_of}
use Rattle.vcm_spec.specs.Workpiece.{Workpiece}
use Rattle.vcm_spec.specs.World.{Settings, World}
use Rattle.vcm_code.specs.Code.{Op}
use Rattle.vcm_code.specs.declared.op.Op.TheVariants.{Plain}
use Rattle.vcm_marks.specs.declared.mark.Mark.{Mark}
use Rattle.vcm_way.specs.declared.task.Task.{Task}
use Rattle.vcm_way.specs.declared.task.Task.TheVariants.{Nowhere, Straight, Measure}
use Rattle.vcm_way.specs.Marks.{marks_of_move, marks_of_touch, touching}

-- where a simple statement sends the probe, its expressions having these values, or why it stops before
abbrev pub sent : Point → World → Simple ℤ → Outcome Task
sent home w (Goto x y z) = do
  target ← machine_point w x y z
  Gives (Straight target)
sent home w GoHome = Gives (Straight home)
sent home w (PtMeas i x y z given) = do
  d ← measured_direction w i given
  nominal ← machine_point w x y z
  Gives (Measure (record { nominal = nominal; toward = direction w.frame.turn d; feature = i }))
sent home w _ = Gives Nowhere

-- a task, or none where a statement stops before it
abbrev pub or_nowhere : Outcome Task → Task
or_nowhere (Gives task) = task
or_nowhere (Stops why) = Nowhere

-- where a statement sends the probe
abbrev pub task_of : Point → World → Op → Task
task_of home w (Plain what) = or_nowhere (evaluated (value_in items_value w) what >>= sent home w)
task_of home w _ = Nowhere

-- what a task adds to the way, from the point p with these settings, by the stop of its statement
abbrev pub marks_of : Workpiece → Point → Settings → Task → Option Stop → List Mark
marks_of part p s Nowhere stop = []
marks_of part p s (Straight target) stop = marks_of_move part p target stop
marks_of part p s (Measure m) stop =
    marks_of_touch part p (touching part s (centre_of part (coordinate m.nominal) m.toward) m.toward m.feature) stop
