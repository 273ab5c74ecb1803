-- What is kept of the narrowest place round each box while the ways of a run are tried.
use Rattle.std.specs.Prelude.{◌≡◌, ℕ, ◌+◌, ◌==◌, ◌&&◌, Bool, true, false, cond, List, [], ◌∷◌, ◌++◌, length, slice_get, slice_set, ℤ, Option, Some, None}
use Rattle.vcm_spec.specs.Setup.{Tables}
use Rattle.vcm_code.specs.Code.{CodeStatement}
use Rattle.vcm_marks.specs.declared.mark.Moment.{Moment}
use Rattle.vcm_naming.specs.Naming.{Line}
use Rattle.vcm_boxes.specs.declared.boxes.ProbeBox.{ProbeBox}
use Rattle.vcm_backtrace.specs.Sources.{Sourced}
use Rattle.vcm_backtrace.specs.Standing.{Past, kept_over}
use Rattle.vcm_backtrace.specs.Backtrace.{backtrace_lines}
use Rattle.vcm_clearance.specs.declared.told.Told.{Told}
use Rattle.vcm_clearance.specs.declared.room.Room.{Room}
use Rattle.vcm_clearance.specs.declared.room.Room.TheVariants.{Met, Clear}
use Rattle.vcm_clearance.specs.declared.here.Here.{Here}
use Rattle.vcm_clearance.specs.Printed.{Backtraces, box_lines}

-- the backtrace of the statement of a step
abbrev pub here_text : Here → List ℕ
here_text h = backtrace_lines h.source.now h.loaded.now.statements h.standing.tables.now h.standing.variables.now h.standing.rounds.now h.place.number

-- the backtrace of the statement with this number, of a place of which this is kept
abbrev pub past_text : Option Sourced → List CodeStatement → Tables → Past → (number : ℕ) → List ℕ
past_text s ss tables k number = backtrace_lines s ss tables k.variables k.rounds number

-- whether the place that is narrowest round a box is one of this step
abbrev pub is_narrowed : Room → Moment → Bool
is_narrowed (Met k) m = false
is_narrowed (Clear g None) m = false
is_narrowed (Clear g (Some t)) m = (t.step == m.step) && (t.number == m.number)

-- what is kept where there is something, with where a step stands in its place
abbrev pub kept_there : List Past → (index : ℕ) → Here → Option Past → List Past
kept_there kept i h None = kept
kept_there kept i h (Some k) = slice_set kept i (kept_over k h.standing.variables.now h.standing.rounds.now)

-- the same, if the place that is narrowest round the box of this index is one of the step
abbrev pub kept_on : List Past → (index : ℕ) → Room → Here → List Past
kept_on kept i r h = cond (is_narrowed r h.place) (kept_there kept i h (slice_get kept i)) kept

-- by what is kept of the narrowest place of a room the same is told as of its step
abbrev pub IsKept : Backtraces → (Past → (number : ℕ) → List ℕ) → Room → Past → Type 0
IsKept from by (Clear g (Some t)) k = by k t.number ≡ from t.step t.number
IsKept from by (Clear g None) k = Unit {0}
IsKept from by (Met n) k = Unit {0}

-- so of each room, of each so many variables are kept
pub record AreKept (from : Backtraces) (by : Past → (number : ℕ) → List ℕ) (variables : ℕ) (rooms : List Room) (kept : List Past) : Type 0 where
  pub count : length kept ≡ length rooms
  pub fit : (i : ℕ) (k : Past) → slice_get kept i ≡ Some k → length k.variables ≡ variables
  pub each : (i : ℕ) (r : Room) (k : Past) → slice_get rooms i ≡ Some r → slice_get kept i ≡ Some k → IsKept from by r k

-- the lines of boxes, by what is kept of their narrowest places
abbrev pub kept_lines : (Past → (number : ℕ) → List ℕ) → List ProbeBox → List Room → List Past → List Line
kept_lines by [] rooms kept = []
kept_lines by (b ∷ bs) [] kept = []
kept_lines by (b ∷ bs) (r ∷ rs) [] = []
kept_lines by (b ∷ bs) (r ∷ rs) (k ∷ ks) = box_lines (λ t. by k t.number) b.name r ++ kept_lines by bs rs ks
