-- What would mend a stop on a way: the limit past which its aim lies, the next block on the line of a search, the length of a way back and of an approach that is free.
use Rattle.std.specs.Prelude.{ℕ, ℤ, int_lt, if◌then◌else◌, List, [], ◌∷◌, ◌++◌, Option, Some, None, decimal, codes}
use Rattle.vcm_num.specs.declared.point.Point.{Point}
use Rattle.vcm_num.specs.Point.{coordinate}
use Rattle.vcm_num.specs.Texts.{thousandths}
use Rattle.vcm_spec.specs.declared.stop.Stop.{Stop}
use Rattle.vcm_spec.specs.declared.stop.Stop.TheVariants.{Collision, Missed, Travel}
use Rattle.vcm_spec.specs.declared.words.MovePhase.{MovePhase}
use Rattle.vcm_spec.specs.declared.words.MovePhase.TheVariants.{Move, Approach, Search, Retract}
use Rattle.vcm_spec.specs.declared.workpiece.Bounds.{Bounds}
use Rattle.vcm_spec.specs.Workpiece.{Workpiece}
use Rattle.vcm_spec.specs.World.{World}
use Rattle.vcm_code.specs.Code.{Op}
use Rattle.vcm_report.specs.Printed.{in_a_row}
use Rattle.vcm_cause.specs.declared.ahead.Ahead.{Ahead}
use Rattle.vcm_cause.specs.declared.cause.Obstacle.{Obstacle}
use Rattle.vcm_cause.specs.declared.cause.Cause.{Cause}
use Rattle.vcm_cause.specs.declared.cause.Cause.TheVariants.{Elsewhere, Way, Met}
use Rattle.vcm_cause.specs.Ahead.{ahead, free_length}
use Rattle.vcm_why.specs.Approaches.{approach_lines}

-- a coordinate on an axis, and the limit past which it lies
abbrev pub past_line : (axis : List ℕ) → (at : ℤ) → (words : List ℕ) → (limit : ℤ) → List ℕ
past_line axis at words limit = in_a_row (axis ∷ thousandths at ∷ words ∷ thousandths limit ∷ codes "\n" ∷ [])

-- the limit past which a coordinate lies, if it does
abbrev pub limit_line : (axis : List ℕ) → (at low high : ℤ) → List ℕ
limit_line axis at low high =
    if int_lt at low then past_line axis at (codes " is below ") low
    else (if int_lt high at then past_line axis at (codes " is above ") high else [])

-- the limits past which a place lies
abbrev pub limit_lines : Bounds → Point → List ℕ
limit_lines l at =
    limit_line (codes "past a limit: x ") (coordinate at 0) (coordinate l.low 0) (coordinate l.high 0)
    ++ (limit_line (codes "past a limit: y ") (coordinate at 1) (coordinate l.low 1) (coordinate l.high 1)
    ++ limit_line (codes "past a limit: z ") (coordinate at 2) (coordinate l.low 2) (coordinate l.high 2))

-- the number of the next block on the line of a search
abbrev pub next_front : (block : ℕ) → List ℕ
next_front block = in_a_row (codes "the next block on that line is " ∷ decimal block ∷ codes ", " ∷ [])

-- that block, and how much farther it lies
abbrev pub next_line : Ahead → List ℕ
next_line a = next_front a.block ++ (thousandths a.far ++ codes " past the end of the search\n")

-- the same, if there is one
abbrev pub ahead_line : Option Ahead → List ℕ
ahead_line None = codes "no block lies farther on that line\n"
ahead_line (Some a) = next_line a

-- the longest way back that is free
abbrev pub length_text : ℤ → List ℕ
length_text z = codes "a retract of " ++ (thousandths z ++ codes " at most is free of it\n")

-- the same, if there is one
abbrev pub length_line : Option ℤ → List ℕ
length_line None = []
length_line (Some z) = length_text z

-- of a way back that met a block
abbrev pub back_line : Bounds → Obstacle → List ℕ
back_line l met = length_line (free_length l.tip met.block met.contact.from met.contact.aim)

-- of a motion that would leave the limits
abbrev pub travel_lines : Workpiece → Cause → List ℕ
travel_lines part Elsewhere = []
travel_lines part (Way from to) = limit_lines part.bounds to
travel_lines part (Met met) = []

-- of a search that touched nothing
abbrev pub missed_lines : Workpiece → Cause → List ℕ
missed_lines part Elsewhere = []
missed_lines part (Way from to) = ahead_line (ahead part from to)
missed_lines part (Met met) = []

-- of a way back that met a block
abbrev pub back_lines : Workpiece → Cause → List ℕ
back_lines part Elsewhere = []
back_lines part (Way from to) = []
back_lines part (Met met) = back_line part.bounds met

-- of a collision on this part of a motion
abbrev pub phase_lines : Workpiece → World → Op → MovePhase → Cause → List ℕ
phase_lines part w op Move cause = []
phase_lines part w op Approach cause = approach_lines part w op cause
phase_lines part w op Search cause = []
phase_lines part w op Retract cause = back_lines part cause

-- what would mend a stop in this state, at a statement that does this
abbrev pub hint_lines : Workpiece → World → Op → Stop → Cause → List ℕ
hint_lines part w op (Travel phase) cause = travel_lines part cause
hint_lines part w op Missed cause = missed_lines part cause
hint_lines part w op (Collision phase hit) cause = phase_lines part w op phase cause
hint_lines part w op why cause = []
