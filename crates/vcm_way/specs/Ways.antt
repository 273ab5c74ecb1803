-- The way of a run, step by step, and what a way keeps of it.
use Rattle.std.specs.Prelude.{ℕ, ◌-◌, nat_le, false, if◌then◌else◌, List, [], ◌∷◌, map, flat_map, Option, Some, None}
use Rattle.vcm_spec.specs.declared.stop.Stop.{Stop}
use Rattle.vcm_spec.specs.declared.stop.StopPlace.{StopPlace}
use Rattle.vcm_spec.specs.Workpiece.{Workpiece}
use Rattle.vcm_code.specs.declared.code.Code.{Code}
use Rattle.vcm_marks.specs.declared.mark.Mark.{Mark}
use Rattle.vcm_marks.specs.Pieces.{pieces}
use Rattle.vcm_marks.specs.declared.mark.PlacedMark.{PlacedMark}
use Rattle.vcm_steps.specs.Passages.{Passage, passages}
use Rattle.vcm_way.specs.Tasks.{task_of, marks_of}

-- the reason of a stop
abbrev pub reason : Option StopPlace → Option Stop
reason None = None
reason (Some p) = Some p.stop

-- marks of one step, with it and with the number and the line of its statement
abbrev pub placed : ℕ → ℕ → ℕ → List Mark → List PlacedMark
placed step number line marks = map (λ mark. record { mark = mark; step = step; number = number; line = line; is_elsewhere = false }) marks

-- the marks that a step adds
abbrev pub step_marks : Workpiece → Passage → List Mark
step_marks part p =
    marks_of part p.before.position p.before.settings (task_of part.bounds.home p.before p.statement.op) (reason p.after.stop)

-- the same, with the step and with the number and the line of its statement
abbrev pub placed_marks : Workpiece → Passage → List PlacedMark
placed_marks part p = placed p.count p.number p.statement.line (step_marks part p)

-- the whole way of a run for at most n steps
abbrev pub whole_way : Workpiece → Code → ℕ → List PlacedMark
whole_way part c n = flat_map (placed_marks part) (passages part c n)

-- the longest rest of the marks that has at most so many pieces
abbrev pub last_pieces : ℕ → List PlacedMark → List PlacedMark
last_pieces most [] = []
last_pieces most (m ∷ ms) = if nat_le (pieces (m ∷ ms)) most then m ∷ ms else last_pieces most ms

-- the most pieces that a way keeps
unfoldable pub most_pieces : ℕ
most_pieces = 20000

-- what a way keeps: marks, and how many pieces it leaves out before them
pub record Kept : Type 0 where
  pub marks : List PlacedMark
  pub left_out : ℕ

-- of these marks
abbrev pub kept_of : List PlacedMark → Kept
kept_of ms = record { marks = last_pieces most_pieces ms; left_out = pieces ms - pieces (last_pieces most_pieces ms) }
