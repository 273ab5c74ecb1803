-- How lines are painted.
use Rattle.std.specs.Prelude.{ℕ, List, [], ◌∷◌, codes}
use Rattle.std.specs.Fmt.{signed_decimal}
use Rattle.vcm_svg.specs.declared.rect.Spot.{Spot}
use Rattle.vcm_svg.specs.Pieces.{joined}

-- a straight line of this class
unfoldable pub line_text : List ℕ → Spot → Spot → List ℕ
line_text class from to =
    joined (codes "<path class=\"" ∷ class ∷ codes "\" d=\"M" ∷ signed_decimal from.x ∷ codes " " ∷ signed_decimal from.y ∷ codes "L"
    ∷ signed_decimal to.x ∷ codes " " ∷ signed_decimal to.y ∷ codes "\"/>\n" ∷ [])
