-- Statements about runs that turn the head. Each is a clause of a law in src/laws.rt.
use Rattle.std.specs.Prelude.{◌≡◌, ◌≢◌, ℕ, ◌<◌, ◌+ℤ◌, List, [], ◌∷◌, slice_get, Option, Some, None, IsTrue}
use Rattle.std.specs.List.{AllByRecursion}
use Rattle.vcm_num.specs.declared.point.Point.{Point}
use Rattle.vcm_num.specs.Point.{coordinate}
use Rattle.vcm_spec.specs.Workpiece.{Workpiece}
use Rattle.vcm_code.specs.declared.code.Code.{Code}
use Rattle.vcm_steps.specs.Passages.{state_after}
use Rattle.vcm_way.specs.Tasks.{task_of}
use Rattle.vcm_probe_set.specs.Probes.{Probe}
use Rattle.vcm_turning.specs.Choosing.{value_of, probe_on, is_held, turned_point, place_with, part_by}
use Rattle.vcm_turning.specs.Turning.{is_motion, turned_after}
use Rattle.vcm_turning.specs.Steps.{TurnedStep, turned_steps, turned_marks}

-- at a turn from one pivot to another the place of the pivot is the same before and behind, on each axis
abbrev pub PivotStays : Type 0
PivotStays = (at old new : Point) (k : ℕ) → k < 3 → (coordinate (turned_point at old new) k +ℤ coordinate new k) ≡ (coordinate at k +ℤ coordinate old k)

-- a step whose statement moves the probe was taken with the chosen one: in the state before it the variable has the number of the probe that is on
abbrev pub IsByItsProbe : Workpiece → List Probe → ℕ → TurnedStep → Type 0
IsByItsProbe part ps v s =
    IsTrue (is_motion (task_of part.bounds.home s.passage.before s.passage.statement.op)) → IsTrue (is_held ps s.on (value_of s.passage.before v))

-- so is each step of a run
abbrev pub NothingMovesWithout : Type 0
NothingMovesWithout = (part : Workpiece) (ps : List Probe) (v : ℕ) (c : Code) (n : ℕ) → AllByRecursion (IsByItsProbe part ps v) (turned_steps part ps v c n)

-- a step that adds marks to the way was taken with the chosen probe
abbrev pub HasItsProbe : Workpiece → List Probe → ℕ → TurnedStep → Type 0
HasItsProbe part ps v s = turned_marks part ps s ≢ [] → IsTrue (is_held ps s.on (value_of s.passage.before v))

-- in the state before each step that has a way, the variable has the number of the probe that is on, with whose tip it was taken
abbrev pub EachWayByItsProbe : Type 0
EachWayByItsProbe = (part : Workpiece) (ps : List Probe) (v : ℕ) (c : Code) (n : ℕ) → AllByRecursion (HasItsProbe part ps v) (turned_steps part ps v c n)

-- where the centre of the tip stands behind a step: where it stood, or, where another probe was put on, at the place that keeps the pivot
abbrev pub stands_behind : List Probe → (on put : Option ℕ) → Point → Point
stands_behind ps on None at = at
stands_behind ps on (Some i) at = place_with at (probe_on ps on) (slice_get ps i)

-- a step as the run takes it: with the tip of the part file, and behind it the centre of the tip is where it stood
abbrev pub IsStill : Workpiece → List Probe → TurnedStep → Type 0
IsStill part ps s = (part_by part ps s.on ≡ part) × (stands_behind ps s.on s.put s.stood ≡ s.stood)

-- as long as all steps are so, the state is that of the run, or the run has ended without a probe
abbrev pub FirstStepsAreTheRun : Type 0
FirstStepsAreTheRun =
    (part : Workpiece) (ps : List Probe) (v : ℕ) (c : Code) (n : ℕ) → AllByRecursion (IsStill part ps) (turned_steps part ps v c n)
    → (turned_after part ps v c n).ended ≡ None → (turned_after part ps v c n).state ≡ state_after part c n

-- the probe that is on behind it
abbrev pub on_behind : (on put : Option ℕ) → Option ℕ
on_behind on None = on
on_behind on (Some i) = Some i

-- each of these steps begins where the one before it left the centre of the tip, and with the probe that it left on
abbrev pub Join : List Probe → Point → Option ℕ → List TurnedStep → Type 0
Join ps from on [] = Unit {0}
Join ps from on (s ∷ ss) = (s.passage.before.position ≡ from) × (s.on ≡ on) × Join ps (stands_behind ps s.on s.put s.stood) (on_behind s.on s.put) ss

-- so do those of a run, from home on and with no probe at first
abbrev pub WaysJoin : Type 0
WaysJoin = (part : Workpiece) (ps : List Probe) (v : ℕ) (c : Code) (n : ℕ) → Join ps part.bounds.home None (turned_steps part ps v c n)
