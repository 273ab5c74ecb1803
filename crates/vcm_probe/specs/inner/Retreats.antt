-- The way back from a touch.
use Rattle.std.specs.Prelude.{ℕ}
use Rattle.vcm_num.specs.declared.point.Point.{Point}
use Rattle.vcm_num.specs.declared.axis.Axis.{Axis}
use Rattle.vcm_num.specs.Axis.{along, opposite}
use Rattle.vcm_num.specs.Point.{coordinate}
use Rattle.vcm_spec.specs.declared.feature.Touch.{Touch}
use Rattle.vcm_spec.specs.declared.stop.Stop.TheVariants.{Travel}
use Rattle.vcm_spec.specs.declared.words.MovePhase.TheVariants.{Retract}
use Rattle.vcm_spec.specs.FirstContact.{later_contact}
use Rattle.vcm_spec.specs.FirstTouch.{free_of}
use Rattle.vcm_spec.specs.Outcome.{Outcome, Gives, ◌>>=◌, demand, point_of}
use Rattle.vcm_spec.specs.Workpiece.{Workpiece, is_within}

-- the way back from a touch, of this length, the centre of the tip being at a point
abbrev pub retreat : Workpiece → Point → Axis → ℕ → Outcome Touch
retreat part centre toward length = do
  _ ← demand (is_within part.bounds (along (coordinate centre) toward length)) (Travel Retract)
  _ ← free_of Retract (later_contact part (coordinate centre) (along (coordinate centre) toward length))
  Gives (record {
    at = point_of (along (coordinate centre) (opposite toward) part.bounds.tip);
    retract = point_of (along (coordinate centre) toward length);
  })
