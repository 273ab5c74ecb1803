-- The rows of frames.
use Rattle.std.specs.Prelude.{pos, ℕ, List, [], ◌∷◌, ◌++◌, codes}
use Rattle.vcm_num.specs.declared.axis.Axis.TheVariants.{PlusX, PlusY, PlusZ}
use Rattle.vcm_num.specs.declared.point.Point.{Point}
use Rattle.vcm_spec.specs.Frame.{Frame, direction, to_machine}
use Rattle.vcm_spec.specs.Outcome.{Outcome, Gives, Stops, point_at}
use Rattle.vcm_words.specs.Operands.{axis_text}
use Rattle.vcm_report.specs.Printed.{in_a_row}
use Rattle.vcm_rows.specs.Rows.{point_then}

-- a point where there is one
abbrev pub point_if : Outcome Point → List ℕ
point_if (Gives p) = in_a_row (point_then p [])
point_if (Stops why) = []

-- the machine axes that X, Y and Z of the part go along, and the end of the row
abbrev pub axes_end : Frame → List ℕ
axes_end f =
    in_a_row (codes " " ∷ axis_text (direction f.turn PlusX) ∷ codes " " ∷ axis_text (direction f.turn PlusY) ∷ codes " "
    ∷ axis_text (direction f.turn PlusZ) ∷ codes "\n" ∷ [])

-- a frame: the machine point of its origin, and its axes
abbrev pub frame_end : Frame → List ℕ
frame_end f = point_if (point_at (to_machine f (λ k. pos 0))) ++ axes_end f
