-- What rows are made of.
use Rattle.std.specs.Prelude.{ℕ, zero, suc, List, [], ◌∷◌, ◌++◌, codes, min}
use Rattle.std.specs.Fmt.{signed_decimal}
use Rattle.vcm_num.specs.declared.point.Point.{Point}
use Rattle.vcm_num.specs.Point.{coordinate}
use Rattle.vcm_report.specs.Printed.{in_a_row}
use Rattle.vcm_num.specs.declared.limits.TheConstants.{MOST_NAMES}

-- the rows of the numbers below this one, in order
abbrev pub rows_below : (ℕ → List ℕ) → ℕ → List ℕ
rows_below row zero = []
rows_below row (suc n) = rows_below row n ++ row n

-- how many entries of a table are told: no image has more than 4,096 of them
abbrev pub told_entries : ℕ → ℕ
told_entries n = min n MOST_NAMES

-- a point in whole micrometres, with a blank between two coordinates, before what stands behind it
abbrev pub point_then : Point → List (List ℕ) → List (List ℕ)
point_then p behind =
    signed_decimal (coordinate p 0) ∷ codes " " ∷ signed_decimal (coordinate p 1) ∷ codes " " ∷ signed_decimal (coordinate p 2) ∷ behind

-- a row of a point, behind these letters
abbrev pub point_row : List ℕ → Point → List ℕ
point_row letters p = in_a_row (letters ∷ point_then p (codes "\n" ∷ []))

-- a row of two points
abbrev pub points_row : List ℕ → Point → Point → List ℕ
points_row letters p q = in_a_row (letters ∷ point_then p (codes " " ∷ point_then q (codes "\n" ∷ [])))
