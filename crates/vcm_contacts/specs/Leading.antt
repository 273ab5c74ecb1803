-- How a run goes on behind a contact: the motion is taken as done.
use Rattle.std.specs.Prelude.{ℕ, ◌-◌, ◌<◌, if◌then◌else◌, List, length, slice_get, Option, Some, None, option_and_then, IsTrue}
use Rattle.vcm_num.specs.declared.axis.Axis.{Axis}
use Rattle.vcm_num.specs.declared.point.Point.{Point}
use Rattle.vcm_num.specs.Point.{coordinate, is_near}
use Rattle.vcm_spec.specs.declared.feature.Feature.{Feature}
use Rattle.vcm_spec.specs.declared.stop.Stop.TheVariants.{Collision, Missed}
use Rattle.vcm_spec.specs.declared.words.MovePhase.{MovePhase}
use Rattle.vcm_spec.specs.declared.workpiece.Hit.{Hit}
use Rattle.vcm_spec.specs.declared.simple.Simple.TheVariants.{PtMeas}
use Rattle.vcm_spec.specs.Effect.{measured_direction}
use Rattle.vcm_spec.specs.Frame.{to_part}
use Rattle.vcm_spec.specs.Outcome.{Outcome, Gives, Stops as Halts, ◌>>=◌, point_at}
use Rattle.vcm_spec.specs.Setup.{Tables}
use Rattle.vcm_spec.specs.Workpiece.{Workpiece, is_blocked, is_within}
use Rattle.vcm_spec.specs.World.{World}
use Rattle.vcm_code.specs.Code.{Op}
use Rattle.vcm_code.specs.declared.op.Op.TheVariants.{Plain}
use Rattle.vcm_code.specs.Valid.{IsLast}
use Rattle.vcm_marks.specs.declared.mark.Mark.{Mark}
use Rattle.vcm_marks.specs.declared.mark.Mark.TheVariants.{Touches, Meets}
use Rattle.vcm_marks.specs.declared.mark.Touched.{Touched}
use Rattle.vcm_way.specs.Tasks.{task_of, marks_of}
use Rattle.vcm_contacts.specs.declared.contact.Lead.{Lead}
use Rattle.vcm_contacts.specs.declared.contact.Lead.TheVariants.{On, Again, Back, Stops}

-- a move or an approach is taken as done: the probe is put at its aim, from which the statement is carried out once more; where the tip meets a block there
-- too, the statement is left at that
abbrev pub toward : Workpiece → Point → Lead
toward part aim = if is_blocked part (coordinate aim) then On aim else Again aim

-- the feature of this index as it is measured where the tip touched, in part coordinates, with the direction that is given or the declared one
abbrev pub feature_at : World → ℕ → Option Axis → Point → Outcome Feature
feature_at w i given touched = do
  d ← measured_direction w i given
  at ← point_at (to_part w.frame (coordinate touched))
  Gives (record { at = at; toward = d })

-- back to an aim, with the feature of this index, or the stop
abbrev pub back_with : Point → ℕ → Outcome Feature → Lead
back_with aim i (Gives f) = Back aim i f
back_with aim i (Halts why) = Stops why

-- a way back to its aim is taken as done: the feature is measured where the tip touched
abbrev pub measured : World → Op → Touched → Point → Lead
measured w (Plain (PtMeas i x y z given)) touched aim = back_with aim i (feature_at w i given touched.at)
measured w _ touched aim = Stops Missed

-- where the way of a contact leads
abbrev pub aim_by : Mark → Option Point
aim_by (Meets met) = Some met.aim
aim_by _ = None

-- that of the contact which is the last of these marks
abbrev pub aim_in : List Mark → Option Point
aim_in marks = option_and_then aim_by (slice_get marks (length marks - 1))

-- a touched point
abbrev pub touched_by : Mark → Option Touched
touched_by (Touches touched) = Some touched
touched_by _ = None

-- what is touched before a way back: the third mark of a measurement, behind its approach and its search
abbrev pub touched_in : List Mark → Option Touched
touched_in marks = option_and_then touched_by (slice_get marks 2)

-- on a way to this aim, behind a touch or before
abbrev pub lead_to : Workpiece → World → Op → Point → Option Touched → Lead
lead_to part w op aim (Some touched) = measured w op touched aim
lead_to part w op aim None = toward part aim

-- to this aim, if there is one
abbrev pub lead_by : Workpiece → World → Op → MovePhase → Hit → Option Point → Option Touched → Lead
lead_by part w op phase hit (Some aim) touched = lead_to part w op aim touched
lead_by part w op phase hit None touched = Stops (Collision phase hit)

-- how a run goes on behind a statement that met a block, by what its step adds to the way of the probe
abbrev pub lead : Workpiece → World → Op → MovePhase → Hit → Lead
lead part w op phase hit =
    let marks : List Mark = marks_of part w.position w.settings (task_of part.bounds.home w op) (Some (Collision phase hit)) in
    lead_by part w op phase hit (aim_in marks) (touched_in marks)

-- a point is within the limits of a workpiece, and near
pub record IsThere (part : Workpiece) (p : Point) : Type 0 where
  pub within : IsTrue (is_within part.bounds (coordinate p))
  pub near : IsTrue (is_near p)

-- a lead can be carried out behind a statement: its point is there, its feature is too, and where it goes on behind the statement, that isn't the last
abbrev pub IsSound : Workpiece → Tables → Op → Lead → Type 0
IsSound part tables op (On p) = IsThere part p × (IsLast op → ⊥)
IsSound part tables op (Again p) = IsThere part p
IsSound part tables op (Back p i f) = IsThere part p × ((i < length tables.features) × (IsLast op → ⊥))
IsSound part tables op (Stops why) = Unit {0}
