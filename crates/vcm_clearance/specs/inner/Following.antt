-- What is known while the ways of a run are tried.
use Rattle.std.specs.List.{AllByRecursion}
use Rattle.std.specs.Prelude.{◌≡◌, ℕ, ◌+◌, ◌<◌, Bool, true, false, List, [], ◌∷◌, ◌++◌, length, map, take, flat_map, slice_get, Option, Some, None}
use Rattle.vcm_spec.specs.declared.workpiece.Block3.{Block3}
use Rattle.vcm_spec.specs.Workpiece.{Workpiece, grown}
use Rattle.vcm_carried.specs.declared.contact.Contact.{Contact}
use Rattle.vcm_naming.specs.Pages.{Page, Adds, AddsFront}
use Rattle.vcm_boxes.specs.declared.boxes.ProbeBox.{ProbeBox}
use Rattle.vcm_steps.specs.Passages.{Passage}
use Rattle.vcm_way.specs.declared.gone.Gone.{Gone as Went}
use Rattle.vcm_way.specs.Gone.{Gone, PlacedWay, placed_at, placed_ways}
use Rattle.vcm_way.specs.Seen.{IsSameWay, seen}
use Rattle.vcm_steps.specs.declared.fault.Unfinished.{Unfinished}
use Rattle.vcm_steps.specs.declared.fault.Unfinished.TheVariants as faults
use Rattle.vcm_marks.specs.declared.mark.Moment.{Moment}
use Rattle.vcm_clearance.specs.declared.room.Room.{Room}
use Rattle.vcm_clearance.specs.declared.room.Room.TheVariants.{Clear}
use Rattle.vcm_clearance.specs.Contacts.{contact_on, told_on}
use Rattle.vcm_clearance.specs.Rooms.{counted, IsRoom, AreRooms}
use Rattle.vcm_spec.specs.Setup.{Tables}
use Rattle.vcm_code.specs.Code.{CodeStatement}
use Rattle.vcm_backtrace.specs.Sources.{Sourced}
use Rattle.vcm_backtrace.specs.Standing.{Past, nothing_kept}
use Rattle.vcm_backtrace.specs.Backtrace.{IsToldAlong, rounds_along}
use Rattle.vcm_clearance.specs.declared.here.Here.{Here}
use Rattle.vcm_clearance.specs.Printed.{Backtraces, contact_line, run_lines}
use Rattle.vcm_clearance.specs.inner.Here.{here_text, past_text, AreKept}

-- with the sides of its boxes moved out by g, the body meets no block on the way of the code
abbrev pub IsClearWith : List Block3 → List Block3 → Went → ℕ → Type 0
IsClearWith blocks body v g = (w : Gone) → IsSameWay (seen v) w → contact_on blocks true (map (grown g) body) w ≡ None

-- it then meets this first
abbrev pub IsMetWith : List Block3 → List Block3 → Went → ℕ → Contact → Type 0
IsMetWith blocks body v g contact = (w : Gone) → IsSameWay (seen v) w → contact_on blocks true (map (grown g) body) w ≡ Some contact

-- whether there is none
abbrev pub is_empty : {A : Type 0} → List A → Bool
is_empty [] = true
is_empty (x ∷ xs) = false

-- the first n boxes were tried on one more way, and their lines were written, with the backtrace of its statement
pub record AreTried (backtrace : List ℕ) (blocks : List Block3) (boxes : List ProbeBox) (is_first : Bool) (ws : List PlacedWay) (p : PlacedWay) (n : ℕ) (rooms : List Room)
    (old new : Page) : Type 0 where
  pub count : length rooms ≡ length boxes
  pub before : (i : ℕ) (b : ProbeBox) (r : Room) → n < i + 1 → slice_get boxes i ≡ Some b → slice_get rooms i ≡ Some r → IsRoom blocks (b.block ∷ []) ws r
  pub behind : (i : ℕ) (b : ProbeBox) (r : Room) → i < n → slice_get boxes i ≡ Some b → slice_get rooms i ≡ Some r → IsRoom blocks (b.block ∷ []) (ws ++ p ∷ []) r
  pub written : Adds old new (flat_map (λ b. contact_line b.name (told_on blocks is_first (b.block ∷ []) p) backtrace) (take n boxes))

-- these ways were tried, and so many were counted
pub record IsDone (blocks : List Block3) (boxes : List ProbeBox) (ws : List PlacedWay) (rooms : List Room) (count : ℕ) : Type 0 where
  pub are_rooms : AreRooms blocks boxes ws rooms
  pub counted_is : count ≡ counted (length ws)

-- what is kept tells the same as of the steps of narrowest places, if it did before a way of this step
abbrev pub IsKeptOn : Here → List Room → List Past → List Room → List Past → Type 0
IsKeptOn h rooms kept after left =
    (from : Backtraces) → from h.place.step h.place.number ≡ here_text h
    → AreKept from (past_text h.source.now h.loaded.now.statements h.standing.tables.now) (length h.standing.variables.now) rooms kept
    → AreKept from (past_text h.source.now h.loaded.now.statements h.standing.tables.now) (length h.standing.variables.now) after left

-- behind any ways that were tried, these ways of a step were tried too, and their lines were written, with the backtrace of its statement
abbrev pub AreAdded : Here → List Block3 → List ProbeBox → List Gone → List Room → List Past → ℕ → Page → List Room → List Past → ℕ → Page → Type 0
AreAdded h blocks boxes gs rooms kept count old after left sum new =
    (ws : List PlacedWay) → IsDone blocks boxes ws rooms count → IsDone blocks boxes (ws ++ placed_at h.place gs) after sum
    × ((from : Backtraces) → from h.place.step h.place.number ≡ here_text h → Adds old new (run_lines from blocks boxes (is_empty ws) (placed_at h.place gs)))
    × IsKeptOn h rooms kept after left

-- or one of these lines could not be written
abbrev pub AreCut : Here → List Block3 → List ProbeBox → List Gone → List Room → ℕ → Page → Page → Type 0
AreCut h blocks boxes gs rooms count old new =
    (ws : List PlacedWay) → IsDone blocks boxes ws rooms count
    → (from : Backtraces) → from h.place.step h.place.number ≡ here_text h → AddsFront old new (run_lines from blocks boxes (is_empty ws) (placed_at h.place gs))

-- the ways of a run's steps
abbrev pub ways_along : Workpiece → List Passage → List PlacedWay
ways_along part ps = flat_map (placed_ways part) ps

-- the backtraces of the statements of these steps are told by this source and code, and behind each step there are so many variables
pub record AreToldBy (from : Backtraces) (s : Option Sourced) (ss : List CodeStatement) (tables : Tables) (rounds : List ℕ) (n : ℕ) (ps : List Passage) : Type 0 where
  pub told : IsToldAlong from s ss tables rounds ps
  pub fit : AllByRecursion (λ p. length p.after.variables ≡ n) ps

-- beside a run that begins with nothing known, the ways of these steps were tried
abbrev pub HasTried : Option Sourced → List CodeStatement → Tables → Workpiece → List ProbeBox → (rounds : List ℕ) → List Room → List Past → ℕ → Page
    → (behind : List ℕ) → List Room → List Past → ℕ → Page → List Passage → Type 0
HasTried s ss tables part boxes rounds rooms kept count old behind after left sum new ps =
    (behind ≡ rounds_along rounds ps) × ((from : Backtraces) (n : ℕ) → AreToldBy from s ss tables rounds n ps → IsDone part.blocks boxes [] rooms count
    → AreKept from (past_text s ss tables) n rooms kept
    → IsDone part.blocks boxes (ways_along part ps) after sum × Adds old new (run_lines from part.blocks boxes true (ways_along part ps))
    × AreKept from (past_text s ss tables) n after left)

-- and a write failed in the step behind them
abbrev pub HasBroken : Option Sourced → List CodeStatement → Tables → Workpiece → List ProbeBox → (rounds : List ℕ) → List Room → List Past → ℕ → Page → Page
    → List Passage → Passage → Unfinished → Type 0
HasBroken s ss tables part boxes rounds rooms kept count old new ps p (faults.Write k) =
    (k ≡ p.count) × ((from : Backtraces) (n : ℕ) → AreToldBy from s ss tables rounds n (ps ++ p ∷ []) → IsDone part.blocks boxes [] rooms count
    → AreKept from (past_text s ss tables) n rooms kept → AddsFront old new (run_lines from part.blocks boxes true (ways_along part (ps ++ p ∷ []))))
HasBroken s ss tables part boxes rounds rooms kept count old new ps p f = ⊥

-- the rooms of boxes before the first way
abbrev pub opening : List ProbeBox → List Room
opening boxes = map (λ b. Clear 50000 None) boxes

-- what is kept of so many variables round each of them then
abbrev pub opening_kept : ℕ → List ProbeBox → List Past
opening_kept n boxes = map (λ b. nothing_kept n) boxes
