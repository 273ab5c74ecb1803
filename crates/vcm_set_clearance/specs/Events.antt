-- What happens in a run that turns its head, in order: the ways of its steps, each by the probe that is on, and behind a step the change of the probe.
use Rattle.std.specs.Prelude.{◌≡◌, ℕ, ◌+ℤ◌, Bool, true, false, List, [], ◌∷◌, ◌++◌, map, Option, Some, None, ◌==◌, if◌then◌else◌}
use Rattle.vcm_num.specs.declared.point.Point.{Point}
use Rattle.vcm_num.specs.Point.{coordinate}
use Rattle.vcm_spec.specs.Outcome.{point_of}
use Rattle.vcm_spec.specs.Workpiece.{Workpiece}
use Rattle.vcm_code.specs.declared.code.Code.{Code}
use Rattle.vcm_marks.specs.declared.mark.Moment.{Moment}
use Rattle.vcm_way.specs.Gone.{PlacedWay, placed_ways}
use Rattle.vcm_clearance.specs.Contacts.{IsPlaced}
use Rattle.vcm_probe_set.specs.Probes.{Probe}
use Rattle.vcm_turning.specs.Choosing.{probe_on, part_by}
use Rattle.vcm_turning.specs.Steps.{TurnedStep, turned_steps}
use Rattle.vcm_set_clearance.specs.declared.event.ProbeWay.{ProbeWay}
use Rattle.vcm_set_clearance.specs.declared.event.Change.{Change}
use Rattle.vcm_set_clearance.specs.declared.event.Event.{Event}
use Rattle.vcm_set_clearance.specs.declared.event.Event.TheVariants.{Way, Turn}

-- a way by the probe of this place; whether it is the first of the run, or the first behind a change
pub record WayBy : Type 0 where
  pub way : PlacedWay
  pub probe : ℕ
  pub is_first : Bool

-- where the pivot of a probe lies, the centre of the tip standing at a point
abbrev pub pivot_at : Point → Probe → Point
pivot_at at p = point_of (λ k. coordinate at k +ℤ coordinate p.pivot k)

-- the same of a probe that may be there
abbrev pub pivot_of : Point → Option Probe → Point
pivot_of at None = at
pivot_of at (Some p) = pivot_at at p

-- a change behind a step: the step, the number and the line of its statement; the place of the probe that was on, if one was, and of that which is on then; where
-- the centre of the tip stood, and where it stands; and where the pivot lies
pub record ChangeAt : Type 0 where
  pub step : ℕ
  pub number : ℕ
  pub line : ℕ
  pub from : Option ℕ
  pub to : ℕ
  pub stood : Point
  pub stands : Point
  pub pivot : Point

-- an event: a way, or a change
pub data Happening : Type 0 where
  goes : WayBy → Happening
  turns : ChangeAt → Happening

-- ways by the probe of a place, of which the first is this or not
abbrev pub ways_with : ℕ → Bool → List PlacedWay → List Happening
ways_with i first [] = []
ways_with i first (w ∷ ws) = goes (record { way = w; probe = i; is_first = first }) ∷ ways_with i false ws

-- those of a step; where no probe is on there are none
abbrev pub ways_at : Workpiece → List Probe → Bool → TurnedStep → Option ℕ → List Happening
ways_at part ps first s None = []
ways_at part ps first s (Some i) = ways_with i first (placed_ways (part_by part ps (Some i)) s.passage)

-- the change to the probe of a place, behind the step of a moment
abbrev pub change_with : List Probe → Moment → (from : Option ℕ) → (stood stands : Point) → (to : Option ℕ) → List Happening
change_with ps place from stood stands None = []
change_with ps place from stood stands (Some j) = turns (record {
  step = place.step;
  number = place.number;
  line = place.line;
  from = from;
  to = j;
  stood = stood;
  stands = stands;
  pivot = pivot_of stands (probe_on ps (Some j));
}) ∷ []

-- the moment of a step
abbrev pub moment_of : TurnedStep → Moment
moment_of s = record { step = s.passage.count; number = s.passage.number; line = s.passage.statement.line }

-- the change behind a step, if there is one
abbrev pub change_at : List Probe → TurnedStep → List Happening
change_at ps s = change_with ps (moment_of s) s.on s.stood s.passage.after.position s.put

-- what happens in a step
abbrev pub happens : Workpiece → List Probe → Bool → TurnedStep → List Happening
happens part ps first s = ways_at part ps first s s.on ++ change_at ps s

-- whether the next way is the first, or the first behind a change, behind these events
abbrev pub first_behind : Bool → List Happening → Bool
first_behind first [] = first
first_behind first (goes w ∷ es) = first_behind false es
first_behind first (turns c ∷ es) = first_behind true es

-- what happens in these steps
abbrev pub happen : Workpiece → List Probe → Bool → List TurnedStep → List Happening
happen part ps first [] = []
happen part ps first (s ∷ ss) = happens part ps first s ++ happen part ps (first_behind first (happens part ps first s)) ss

-- what happens in a run for at most n steps
abbrev pub events_of : Workpiece → List Probe → (variable : ℕ) → Code → ℕ → List Happening
events_of part ps v c n = happen part ps true (turned_steps part ps v c n)

-- the ways by the probe of a place, among events
abbrev pub ways_by : ℕ → List Happening → List PlacedWay
ways_by i [] = []
ways_by i (goes w ∷ es) = if w.probe == i then w.way ∷ ways_by i es else ways_by i es
ways_by i (turns c ∷ es) = ways_by i es

-- ---- events as the code has them

-- the event of the code is this way
pub record IsWayBy (e : ProbeWay) (w : WayBy) : Type 0 where
  pub placed : IsPlaced e.place e.gone w.way
  pub probe : e.probe ≡ w.probe
  pub first : e.is_first ≡ w.is_first

-- the event of the code is this change
pub record IsChangeAt (e : Change) (c : ChangeAt) : Type 0 where
  pub step : e.place.step ≡ c.step
  pub number : e.place.number ≡ c.number
  pub line : e.place.line ≡ c.line
  pub from : e.from ≡ c.from
  pub to : e.to ≡ c.to
  pub stood : e.stood ≡ c.stood
  pub stands : e.stands ≡ c.stands
  pub pivot : e.pivot ≡ c.pivot

-- the event of the code is this one
abbrev pub IsEvent : Event → Happening → Type 0
IsEvent (Way e) (goes w) = IsWayBy e w
IsEvent (Turn e) (turns c) = IsChangeAt e c
IsEvent (Way e) (turns c) = ⊥
IsEvent (Turn e) (goes w) = ⊥

-- the events of the code are these, one by one
abbrev pub AreEvents : List Event → List Happening → Type 0
AreEvents [] [] = Unit {0}
AreEvents (e ∷ es) (h ∷ hs) = IsEvent e h × AreEvents es hs
AreEvents [] (h ∷ hs) = ⊥
AreEvents (e ∷ es) [] = ⊥
