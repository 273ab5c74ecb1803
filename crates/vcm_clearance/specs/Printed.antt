-- Contacts and rooms as text.
use Rattle.std.specs.Prelude.{ℕ, ◌+◌, Bool, false, List, [], ◌∷◌, ◌++◌, flat_map, Option, Some, None, decimal, codes}
use Rattle.vcm_num.specs.declared.point.Point.{Point}
use Rattle.vcm_spec.specs.declared.workpiece.Block3.{Block3}
use Rattle.vcm_spec.specs.declared.workpiece.Hit.{Hit}
use Rattle.vcm_naming.specs.Naming.{Line, plain, about}
use Rattle.vcm_report.specs.Printed.{in_a_row, point_text}
use Rattle.vcm_marks.specs.declared.mark.Going.{Going}
use Rattle.vcm_marks.specs.declared.mark.Going.TheVariants as going
use Rattle.vcm_boxes.specs.declared.boxes.ProbeBox.{ProbeBox}
use Rattle.vcm_way.specs.Gone.{PlacedWay}
use Rattle.vcm_clearance.specs.declared.told.Told.{Told}
use Rattle.vcm_clearance.specs.declared.room.Room.{Room}
use Rattle.vcm_clearance.specs.declared.room.Room.TheVariants.{Met, Clear}
use Rattle.vcm_clearance.specs.Contacts.{told_on}

-- the word of a way
abbrev pub going_text : Going → List ℕ
going_text going.Move = codes "MOVE"
going_text going.Approach = codes "APPROACH"
going_text going.Search = codes "SEARCH"
going_text going.Retract = codes "RETRACT"
going_text going.Rest = codes "REST"

-- the position of a contact, in millimetres, and the end of the line
abbrev pub position_text : Point → List ℕ
position_text p = codes " position " ++ (point_text (codes " ") p ++ codes "\n")

-- where in the run a contact is
abbrev pub place_text : Told → List ℕ
place_text t = in_a_row (codes " at " ∷ decimal t.number ∷ codes " line " ∷ decimal t.line ∷ codes " step " ∷ decimal t.step ∷ [])

-- what is met on a way with this word
abbrev pub hit_text : List ℕ → Hit → List ℕ
hit_text word hit = in_a_row (codes " " ∷ word ∷ codes " block " ∷ decimal hit.block ∷ codes " permille " ∷ decimal hit.permille ∷ [])

-- what the box of this name meets
abbrev pub met_text : List ℕ → Told → List ℕ
met_text name t = name ++ hit_text (going_text t.going) t.contact.hit

-- where that is, and the end of the line
abbrev pub where_text : Told → List ℕ
where_text t = place_text t ++ position_text t.contact.at

-- a contact of the box of this name
abbrev pub told_text : List ℕ → Told → List ℕ
told_text name t = met_text name t ++ where_text t

-- the text of its line
abbrev pub contact_text : List ℕ → Told → List ℕ
contact_text name t = codes "contact " ++ told_text name t

-- the line of a contact, if there is one, and below it the backtrace of its statement
abbrev pub contact_line : List ℕ → Option Told → (backtrace : List ℕ) → List Line
contact_line name None backtrace = []
contact_line name (Some t) backtrace = about t.contact.hit.block (contact_text name t) ∷ plain backtrace ∷ []

-- the lines of a way, box by box, each as a body of its own; its statement comes from here
abbrev pub way_lines : (backtrace : List ℕ) → List Block3 → List ProbeBox → Bool → PlacedWay → List Line
way_lines backtrace blocks boxes is_first p = flat_map (λ b. contact_line b.name (told_on blocks is_first (b.block ∷ []) p) backtrace) boxes

-- the backtrace of the statement of a step, in lines, by the step and the number of the statement
abbrev pub Backtraces : Type 0
Backtraces = (step number : ℕ) → List ℕ

-- the lines of ways, of which the first is that of the run, or not
abbrev pub run_lines : Backtraces → List Block3 → List ProbeBox → Bool → List PlacedWay → List Line
run_lines from blocks boxes is_first [] = []
run_lines from blocks boxes is_first (p ∷ ps) = way_lines (from p.step p.number) blocks boxes is_first p ++ run_lines from blocks boxes false ps

-- how many ways there are, and behind that what is told of ways that weren't tried
abbrev pub ways_text : List ℕ → ℕ → List ℕ
ways_text untried count = in_a_row (codes "ways " ∷ decimal count ∷ untried ∷ codes "\n" ∷ [])

-- that a box is met, and on how many ways
abbrev pub met_line : List ℕ → ℕ → List ℕ
met_line name k = in_a_row (codes "box " ∷ name ∷ codes " met " ∷ decimal k ∷ codes "\n" ∷ [])

-- how much room is left round a box
abbrev pub clear_line : List ℕ → ℕ → List ℕ
clear_line name g = in_a_row (codes "box " ∷ name ∷ codes " clear " ∷ decimal g ∷ codes "\n" ∷ [])

-- with how much more a box meets a block
abbrev pub more_text : ℕ → List ℕ
more_text g = in_a_row (codes "at " ∷ decimal (g + 1) ∷ codes " " ∷ [])

-- what it then meets
abbrev pub narrow_text : List ℕ → ℕ → Told → List ℕ
narrow_text name g t = more_text g ++ told_text name t

-- its line, if there is so much room, and below it the backtrace of its statement
abbrev pub narrow_line : (Told → List ℕ) → List ℕ → ℕ → Option Told → List Line
narrow_line from name g None = []
narrow_line from name g (Some t) = about t.contact.hit.block (narrow_text name g t) ∷ plain (from t) ∷ []

-- the lines of a box
abbrev pub box_lines : (Told → List ℕ) → List ℕ → Room → List Line
box_lines from name (Met k) = plain (met_line name k) ∷ []
box_lines from name (Clear g told) = plain (clear_line name g) ∷ narrow_line from name g told

-- the lines of boxes
abbrev pub boxes_lines : Backtraces → List ProbeBox → List Room → List Line
boxes_lines from [] rooms = []
boxes_lines from (b ∷ bs) [] = []
boxes_lines from (b ∷ bs) (r ∷ rs) = box_lines (λ t. from t.step t.number) b.name r ++ boxes_lines from bs rs
