-- What is known before a step, how its motion ends, and its marks.
use Rattle.std.specs.Prelude.{◌≡◌, IsTrue, Option, Some, List, []}
use Rattle.vcm_num.specs.declared.point.Point.{Point}
use Rattle.vcm_num.specs.Point.{coordinate, is_near}
use Rattle.vcm_spec.specs.declared.stop.Stop.{Stop}
use Rattle.vcm_spec.specs.declared.words.MovePhase.TheVariants.{Move}
use Rattle.vcm_spec.specs.FirstTouch.{free_move, touch}
use Rattle.vcm_spec.specs.Outcome.{Outcome, Gives, Stops}
use Rattle.vcm_spec.specs.Workpiece.{Workpiece}
use Rattle.vcm_spec.specs.World.{Settings, World}
use Rattle.vcm_code.specs.Code.{CodeStatement}
use Rattle.vcm_marks.specs.declared.mark.Mark.{Mark}
use Rattle.vcm_way.specs.declared.step.Before.{Before}
use Rattle.vcm_way.specs.declared.step.StepMarks.{StepMarks}
use Rattle.vcm_way.specs.declared.step.StepMarks.TheVariants.{Zero, One, Two, Three, Four, Six}
use Rattle.vcm_way.specs.declared.task.Task.{Task}
use Rattle.vcm_way.specs.declared.task.Task.TheVariants.{Nowhere, Straight, Measure}
use Rattle.vcm_way.specs.Tasks.{task_of}

-- where the probe is before a statement, its settings, and where the statement sends it
pub record IsBefore (home : Point) (w : World) (s : CodeStatement) (b : Before) : Type 0 where
  pub position : b.position ≡ w.position
  pub settings : b.settings ≡ w.settings
  pub task : b.task ≡ task_of home w s.op
  pub near : IsTrue (is_near b.position)

-- where the motion stops, its statement has that stop
abbrev pub EndsAs : {A : Type 0} → Outcome A → Option Stop → Type 0
EndsAs (Gives x) stop = Unit {0}
EndsAs (Stops why) stop = stop ≡ Some why

-- the statement of a task from the point p with these settings has the stop of its motion, if that has one
abbrev pub TaskEnds : Workpiece → Point → Settings → Task → Option Stop → Type 0
TaskEnds part p s Nowhere stop = Unit {0}
TaskEnds part p s (Straight target) stop = EndsAs (free_move Move part (coordinate p) (coordinate target)) stop
TaskEnds part p s (Measure m) stop = EndsAs (touch part s (coordinate p) (coordinate m.nominal) m.toward) stop

-- the marks of a step, in a list
abbrev pub listed : StepMarks → List Mark
listed Zero = []
listed (One marks) = marks
listed (Two marks) = marks
listed (Three marks) = marks
listed (Four marks) = marks
listed (Six marks) = marks
