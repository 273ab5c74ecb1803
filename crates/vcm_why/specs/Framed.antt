-- The frame in which a run stopped on a way.
use Rattle.std.specs.Prelude.{ℕ, pos, nat_lt, Bool, true, false, ◌&&◌, List, [], ◌∷◌, ◌++◌, decimal, codes}
use Rattle.vcm_num.specs.declared.axis.Axis.TheVariants.{PlusX, PlusY, PlusZ}
use Rattle.vcm_num.specs.declared.point.Point.{Point}
use Rattle.vcm_spec.specs.Frame.{Frame, direction, to_machine}
use Rattle.vcm_spec.specs.Outcome.{Outcome, Gives, Stops, point_at}
use Rattle.vcm_words.specs.Operands.{axis_text}
use Rattle.vcm_report.specs.Printed.{in_a_row, point_text}
use Rattle.vcm_cause.specs.declared.cause.Cause.{Cause}
use Rattle.vcm_cause.specs.declared.cause.Cause.TheVariants.{Elsewhere, Way, Met}

-- the line of the statement that made it
abbrev pub framed_text : ℕ → List ℕ
framed_text line = in_a_row (codes "frame of line " ∷ decimal line ∷ codes ": origin " ∷ [])

-- where its origin lies on the machine
abbrev pub origin_text : Outcome Point → List ℕ
origin_text (Gives at) = point_text (codes " ") at
origin_text (Stops why) = []

-- along which axes of the machine its own go
abbrev pub axes_text : Frame → List ℕ
axes_text f =
    in_a_row (codes ", x along " ∷ axis_text (direction f.turn PlusX) ∷ codes ", y along " ∷ axis_text (direction f.turn PlusY) ∷ codes ", z along "
    ∷ axis_text (direction f.turn PlusZ) ∷ codes "\n" ∷ [])

-- the whole line
abbrev pub frame_line : Frame → ℕ → List ℕ
frame_line f line = framed_text line ++ (origin_text (point_at (to_machine f (λ k. pos 0))) ++ axes_text f)

-- whether there is a line of a text: without one the frame is the machine's own, and without a text no line is told
abbrev pub is_framed : (is_text : Bool) → ℕ → Bool
is_framed is_text line = is_text && nat_lt 0 line

-- the line, if it is told
abbrev pub frame_if : Frame → Bool → ℕ → List ℕ
frame_if f true line = frame_line f line
frame_if f false line = []

-- the frame of a stop on a way
abbrev pub frame_lines : Frame → (is_text : Bool) → ℕ → Cause → List ℕ
frame_lines f is_text line Elsewhere = []
frame_lines f is_text line (Way from to) = frame_if f (is_framed is_text line) line
frame_lines f is_text line (Met met) = frame_if f (is_framed is_text line) line
