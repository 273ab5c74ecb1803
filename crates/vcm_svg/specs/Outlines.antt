-- Outlines of paths.
use Rattle.std.specs.Prelude.{ℕ, ℤ, pos, ◌-ℤ◌, ◌*ℤ◌, neg_ℤ, List, [], ◌∷◌, codes}
use Rattle.std.specs.Fmt.{signed_decimal}
use Rattle.vcm_svg.specs.declared.outlines.Outline.{Outline}
use Rattle.vcm_svg.specs.declared.outlines.Outline.TheVariants.{Rectangle, Circle, Cross, Line, Dash, Bar}
use Rattle.vcm_svg.specs.declared.rect.Rect.{Rect}
use Rattle.vcm_svg.specs.declared.rect.Spot.{Spot}
use Rattle.vcm_svg.specs.Pieces.{joined}
use Rattle.vcm_svg.specs.Rect.{spot}

-- a rectangle
abbrev pub rect_outline : Rect → Outline
rect_outline r = Rectangle (spot r.left r.top) (r.right -ℤ r.left) (r.bottom -ℤ r.top)

-- a square round a place, so far from it on each side
abbrev pub square_round : Spot → ℤ → Outline
square_round at half = Rectangle (spot (at.x -ℤ half) (at.y -ℤ half)) (pos 2 *ℤ half) (pos 2 *ℤ half)

-- a circle of this radius round a place
abbrev pub circle : Spot → ℤ → Outline
circle at r = Circle (spot (at.x -ℤ r) at.y) r (pos 2 *ℤ r)

-- a cross at a place, whose lines end so far from it to each side
abbrev pub cross : Spot → ℤ → Outline
cross at r = Cross (spot (at.x -ℤ r) (at.y -ℤ r)) (pos 2 *ℤ r)

-- a line of a length to the right, with one so high up at each end
abbrev pub bar_line : Spot → ℤ → ℤ → Outline
bar_line at rise long = Bar (spot at.x (at.y -ℤ rise)) rise long

-- how outlines are written
abbrev pub outline_text : Outline → List ℕ
outline_text (Rectangle at w h) =
    joined (codes "M" ∷ signed_decimal at.x ∷ codes " " ∷ signed_decimal at.y ∷ codes "h" ∷ signed_decimal w ∷ codes "v" ∷ signed_decimal h
    ∷ codes "h" ∷ signed_decimal (neg_ℤ w) ∷ codes "z" ∷ [])
outline_text (Circle at r w) =
    joined (codes "M" ∷ signed_decimal at.x ∷ codes " " ∷ signed_decimal at.y ∷ codes "a" ∷ signed_decimal r ∷ codes " " ∷ signed_decimal r
    ∷ codes " 0 1 0 " ∷ signed_decimal w ∷ codes " 0a" ∷ signed_decimal r ∷ codes " " ∷ signed_decimal r ∷ codes " 0 1 0 "
    ∷ signed_decimal (neg_ℤ w) ∷ codes " 0z" ∷ [])
outline_text (Cross at w) =
    joined (codes "M" ∷ signed_decimal at.x ∷ codes " " ∷ signed_decimal at.y ∷ codes "l" ∷ signed_decimal w ∷ codes " " ∷ signed_decimal w
    ∷ codes "m0 " ∷ signed_decimal (neg_ℤ w) ∷ codes "l" ∷ signed_decimal (neg_ℤ w) ∷ codes " " ∷ signed_decimal w ∷ [])
outline_text (Line a b) =
    joined (codes "M" ∷ signed_decimal a.x ∷ codes " " ∷ signed_decimal a.y ∷ codes "L" ∷ signed_decimal b.x ∷ codes " " ∷ signed_decimal b.y ∷ [])
outline_text (Dash at long) =
    joined (codes "M" ∷ signed_decimal at.x ∷ codes " " ∷ signed_decimal at.y ∷ codes "h" ∷ signed_decimal long ∷ [])
outline_text (Bar at rise long) =
    joined (codes "M" ∷ signed_decimal at.x ∷ codes " " ∷ signed_decimal at.y ∷ codes "v" ∷ signed_decimal rise ∷ codes "h" ∷ signed_decimal long
    ∷ codes "v" ∷ signed_decimal (neg_ℤ rise) ∷ [])
