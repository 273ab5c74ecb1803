-- The rows of the marks of a way.
use Rattle.std.specs.Prelude.{ℕ, Bool, if◌then◌else◌, List, [], ◌∷◌, decimal, codes}
use Rattle.std.specs.Ordering.{int_eq}
use Rattle.vcm_num.specs.declared.point.Point.{Point}
use Rattle.vcm_num.specs.Point.{coordinate, on_each}
use Rattle.vcm_spec.specs.Setup.{Tables}
use Rattle.vcm_marks.specs.declared.mark.Going.{Going}
use Rattle.vcm_marks.specs.declared.mark.Going.TheVariants.{Move, Approach, Search, Retract, Rest}
use Rattle.vcm_marks.specs.declared.mark.Mark.{Mark}
use Rattle.vcm_marks.specs.declared.mark.Mark.TheVariants.{Goes, Touches, Meets}
use Rattle.vcm_marks.specs.declared.mark.Leg.{Leg}
use Rattle.vcm_marks.specs.declared.mark.Touched.{Touched}
use Rattle.vcm_marks.specs.declared.mark.Contact.{Contact}
use Rattle.vcm_report.specs.Printed.{in_a_row, name_at}
use Rattle.vcm_rows.specs.Rows.{point_then, point_row, points_row}

-- the letter of a piece, and a blank
abbrev pub going_letters : Going → List ℕ
going_letters Move = codes "m "
going_letters Approach = codes "a "
going_letters Search = codes "s "
going_letters Retract = codes "r "
going_letters Rest = codes "x "

-- whether two points are one
abbrev pub is_at : Point → Point → Bool
is_at p q = on_each (λ k. int_eq (coordinate p k) (coordinate q k))

-- a piece: its letter and its end; and its aim, where it ends before that
abbrev pub piece_row : Leg → List ℕ
piece_row piece = if is_at piece.to piece.aim then point_row (going_letters piece.going) piece.to else points_row (going_letters piece.going) piece.to piece.aim

-- a touched point: t, the point and the name of its feature
abbrev pub touched_row : Tables → Touched → List ℕ
touched_row tables t = in_a_row (codes "t " ∷ point_then t.at (codes " " ∷ name_at tables.features t.feature ∷ codes "\n" ∷ []))

-- a contact: c, where the centre of the tip stands, and the number of the block
abbrev pub contact_row : Contact → List ℕ
contact_row c = in_a_row (codes "c " ∷ point_then c.at (codes " " ∷ decimal c.block ∷ codes "\n" ∷ []))

-- a mark of the way
abbrev pub mark_row : Tables → Mark → List ℕ
mark_row tables (Goes piece) = piece_row piece
mark_row tables (Touches t) = touched_row tables t
mark_row tables (Meets c) = contact_row c
