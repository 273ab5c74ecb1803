-- What is gathered along a run.
use Rattle.std.specs.Prelude.{◌≡◌, ℕ, Bool, List, [], ◌∷◌, ◌++◌, Option, Some, None}
use Rattle.vcm_num.specs.declared.point.Point.{Point}
use Rattle.vcm_spec.specs.Workpiece.{Workpiece}
use Rattle.vcm_spec.specs.declared.stop.Stop.{Stop}
use Rattle.vcm_marks.specs.declared.mark.Moment.{Moment}
use Rattle.vcm_way.specs.declared.step.Before.{Before}
use Rattle.vcm_way.specs.Gone.{placed_at, ways_in}
use Rattle.vcm_way.specs.Tasks.{marks_of}
use Rattle.vcm_probe_set.specs.Probes.{Probe}
use Rattle.vcm_turning.specs.Choosing.{part_by}
use Rattle.vcm_turning.specs.Steps.{TurnedStep}
use Rattle.vcm_set_clearance.specs.declared.event.Event.{Event}
use Rattle.vcm_set_clearance.specs.Events.{Happening, AreEvents, ways_with, first_behind, happen}

-- from the first events to the second these were added, and so it is known whether the next way is the first
abbrev pub HasAdded : (first : Bool) → (old new : List Event) → (next : Bool) → List Happening → Type 0
HasAdded first old new next es = (next ≡ first_behind first es) × ((hs : List Happening) → AreEvents old hs → AreEvents new (hs ++ es))

-- what happens in these steps was added
abbrev pub HasGathered : Workpiece → List Probe → (first : Bool) → (old new : List Event) → (next : Bool) → List TurnedStep → Type 0
HasGathered part ps first old new next ss = HasAdded first old new next (happen part ps first ss)

-- the ways of a task that is done with the probe of this place, by what was known before it and its stop
abbrev pub ways_done : Workpiece → List Probe → Bool → Moment → Before → Option Stop → Option ℕ → List Happening
ways_done part ps first place b stop None = []
ways_done part ps first place b stop (Some i) =
    ways_with i first (placed_at place (ways_in (part_by part ps (Some i)) (marks_of (part_by part ps (Some i)) b.position b.settings b.task stop)))
