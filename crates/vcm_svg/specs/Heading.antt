-- The heading of a picture.
use Rattle.std.specs.Prelude.{ℕ, ℤ, pos, ◌*ℤ◌, nat_eq, if◌then◌else◌, List, [], ◌∷◌, ◌++◌, decimal, codes}
use Rattle.vcm_num.specs.declared.point.Point.{Point}
use Rattle.vcm_svg.specs.declared.shapes.Placement.{Placement}
use Rattle.vcm_svg.specs.declared.shapes.Lettering.TheVariants.{Heading}
use Rattle.vcm_svg.specs.Pieces.{joined, point_text}
use Rattle.vcm_svg.specs.Rect.{spot}
use Rattle.vcm_svg.specs.Shapes.{label, text}

-- where a line of the heading stands, so many units from the top
abbrev pub heading_label : ℤ → ℤ → Placement
heading_label u line = label Heading u (spot (pos 20 *ℤ u) (line *ℤ u))

-- the line of the position and the steps
abbrev pub position_text : ℤ → Point → ℕ → List ℕ
position_text u position done =
    text (heading_label u (pos 38)) (joined (codes "position " ∷ point_text position ∷ codes "  steps " ∷ decimal done ∷ []))

-- the line of the pieces that are left out
abbrev pub left_out_line : ℤ → ℕ → List ℕ
left_out_line u n = text (heading_label u (pos 56)) (joined (codes "the first " ∷ decimal n ∷ codes " pieces of the way are left out" ∷ []))

-- the same, if there are any
abbrev pub left_out_text : ℤ → ℕ → List ℕ
left_out_text u n = if nat_eq n 0 then [] else left_out_line u n

-- the heading
abbrev pub heading_text : ℤ → List ℕ → Point → ℕ → ℕ → List ℕ
heading_text u first position done left_out =
    text (heading_label u (pos 20)) (joined (first ∷ [])) ++ (position_text u position done ++ left_out_text u left_out)
