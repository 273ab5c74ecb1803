-- The legend, and the bar that shows a length.
use Rattle.std.specs.Prelude.{ℕ, ℤ, pos, ◌+ℤ◌, ◌*ℤ◌, int_le, if◌then◌else◌, map, List, [], ◌∷◌, ◌++◌, flat_map, codes}
use Rattle.std.specs.Int.{int_div_euclid}
use Rattle.vcm_num.specs.Texts.{thousandths}
use Rattle.vcm_svg.specs.declared.legend.Sign.{Sign}
use Rattle.vcm_svg.specs.declared.legend.TheConstants.{BARS, ROWS}
use Rattle.vcm_svg.specs.declared.legend.Sign.TheVariants as sign
use Rattle.vcm_svg.specs.declared.outlines.Outline.{Outline}
use Rattle.vcm_svg.specs.declared.outlines.Outline.TheVariants.{Dash}
use Rattle.vcm_svg.specs.declared.rect.Spot.{Spot}
use Rattle.vcm_svg.specs.declared.shapes.Class.{Class}
use Rattle.vcm_svg.specs.declared.shapes.Class.TheVariants as class
use Rattle.vcm_svg.specs.declared.shapes.Placement.{Placement}
use Rattle.vcm_svg.specs.declared.shapes.Lettering.TheVariants.{Plain}
use Rattle.vcm_svg.specs.Outlines.{bar_line, circle, cross, square_round}
use Rattle.vcm_svg.specs.Pieces.{joined}
use Rattle.vcm_svg.specs.Rect.{spot}
use Rattle.vcm_svg.specs.Shapes.{label, path, text}

-- how many units to the right of its row's place a sign stands
abbrev pub right_of : Sign → ℤ
right_of sign.Line = pos 0
right_of sign.Point = pos 20
right_of sign.Circle = pos 20
right_of sign.Square = pos 20
right_of sign.Cross = pos 20

-- how many units long a sign is, or how many its edge is from its middle
abbrev pub size_of : Sign → ℤ
size_of sign.Line = pos 40
size_of sign.Point = pos 3
size_of sign.Circle = pos 5
size_of sign.Square = pos 5
size_of sign.Cross = pos 5

-- the outline of a sign at a place, of this size
abbrev pub sign_outline : Sign → Spot → ℤ → Outline
sign_outline sign.Line at size = Dash at size
sign_outline sign.Point at size = circle at size
sign_outline sign.Circle at size = circle at size
sign_outline sign.Square at size = square_round at size
sign_outline sign.Cross at size = cross at size

-- the outline of a sign in a row so many units below a place
abbrev pub sign_in_row : Spot → ℤ → ℕ → Sign → Outline
sign_in_row at u down s = sign_outline s (spot (at.x +ℤ right_of s *ℤ u) (at.y +ℤ pos down *ℤ u)) (size_of s *ℤ u)

-- where the words of a row stand, so many units below a place
abbrev pub words_label : Spot → ℤ → ℕ → Placement
words_label at u down = label Plain u (spot (at.x +ℤ pos 48 *ℤ u) (at.y +ℤ (pos down +ℤ pos 3) *ℤ u))

-- a row: how many units it stands below a place, the class and the form of its sign, and its words
abbrev pub row_text : Spot → ℤ → ℕ × Class × Sign × List ℕ → List ℕ
row_text at u row =
    path row.1 (sign_in_row at u row.0 row.2) ++ text (words_label at u row.0) (joined (row.3 ∷ []))

-- rows
abbrev pub rows_text : Spot → ℤ → List (ℕ × Class × Sign × List ℕ) → List ℕ
rows_text at u rows = flat_map (row_text at u) rows

-- the legend at a place
abbrev pub legend_text : Spot → ℤ → List ℕ
legend_text at u = rows_text at u (map (λ row. (row.0, row.1, row.2, row.3.now)) ROWS.now)

-- the last of lengths that is at most a number, or else the one that is given
abbrev pub last_within : ℤ → ℤ → List ℤ → ℤ
last_within most best [] = best
last_within most best (b ∷ bs) = last_within most (if int_le b most then b else best) bs

-- the length of the bar: the greatest of 1, 2, 5, 10, 20, 50 and so on that is at most a number
abbrev pub bar_of : ℤ → ℤ
bar_of most = last_within most (pos 1) BARS

-- where the words of a bar of a length stand
abbrev pub bar_label : Spot → ℤ → ℤ → Placement
bar_label at u long = label Plain u (spot (at.x +ℤ long +ℤ pos 8 *ℤ u) at.y)

-- a bar of that length with its words
abbrev pub bar_with : Spot → ℤ → ℤ → ℤ → List ℕ
bar_with at u grain long =
    path class.Cross (bar_line at (pos 5 *ℤ u) long)
    ++ text (bar_label at u long) (joined (thousandths (long *ℤ grain) ∷ codes " mm; third-angle projection" ∷ []))

-- the bar of a view of that width
abbrev pub bar_text : Spot → ℤ → ℤ → ℤ → List ℕ
bar_text at u grain wide = bar_with at u grain (bar_of (int_div_euclid wide (pos 4)))
