-- Worked examples: a top view of 30 by 30 millimetres in units of 10 micrometres, whose marks and texts have the unit 5.
use Rattle.std.specs.Prelude.{◌≡◌, refl, ℕ, ℤ, pos, false, [], ◌∷◌, Some}
use Rattle.vcm_num.specs.Point.{point}
use Rattle.vcm_marks.specs.declared.mark.Mark.TheVariants.{Touches}
use Rattle.vcm_marks.specs.declared.mark.PlacedMark.{PlacedMark}
use Rattle.vcm_marks.specs.declared.mark.Touched.{Touched}
use Rattle.vcm_svg.specs.declared.outlines.Outline.TheVariants.{Circle}
use Rattle.vcm_svg.specs.declared.rect.Rect.{Rect}
use Rattle.vcm_svg.specs.declared.shapes.Class.TheVariants as class
use Rattle.vcm_svg.specs.Rect.{boxed, spot}
use Rattle.vcm_picture.specs.declared.shapes.Shape.TheVariants.{Told}
use Rattle.vcm_picture.specs.declared.shapes.Tip.TheVariants as tip
use Rattle.vcm_picture.specs.declared.shown.Face.{Face}
use Rattle.vcm_picture.specs.declared.shown.Shown.TheVariants.{Repeated, Hidden}
use Rattle.vcm_picture.specs.Sights.{Scope}
use Rattle.vcm_picture.specs.declared.view.View.TheVariants.{Top}
use Rattle.vcm_picture.specs.Names.{beside}
use Rattle.vcm_picture.specs.Shown.{rects_before, shown_of}
use Rattle.vcm_picture.specs.Way.{touched_points}

-- the view
abbrev scope : Scope
scope = record { view = Top; left = pos 0; top = pos 30000; grain = pos 10; unit = pos 5; wide = pos 3000; high = pos 3000 }

-- a point that was touched, 20 millimetres to the right and 10 up
abbrev touched : Touched
touched = record { at = point (pos 20000) (pos 10000) (pos 0); feature = 4 }

-- its mark
abbrev mark : PlacedMark
mark = record { mark = Touches touched; step = 7; number = 3; line = 12; is_elsewhere = false }

-- it is a circle of three units, 2000 to the right and 2000 down, with its step
pub touched_there : touched_points scope (mark ∷ [])
    ≡ Told class.Touched (Circle (spot (pos 1985) (pos 2000)) (pos 15) (pos 30)) (tip.Touched (record { step = 7; number = 3; line = 12 }) touched) ∷ []
touched_there = refl

-- a block with this number, nearness and rectangle
abbrev face : ℕ → ℤ → Rect → Face
face n near r = record { number = n; block = record { low = point near near near; high = point near near near }; rect = r; near = near }

-- a low block, a higher one with the same rectangle, and one as high with a larger one
abbrev low : Face
low = face 1 (pos 5) (boxed (pos 10) (pos 10) (pos 20) (pos 20))

-- a block nearer to the viewer, with the rectangle of the low one
abbrev high : Face
high = face 2 (pos 9) (boxed (pos 10) (pos 10) (pos 20) (pos 20))

-- one as near, whose rectangle holds both
abbrev wide : Face
wide = face 3 (pos 9) (boxed (pos 0) (pos 0) (pos 90) (pos 90))

-- behind the higher block the low one isn't drawn
pub behind_the_same : shown_of (rects_before low (low ∷ high ∷ wide ∷ [])) low (pos 5) ≡ Repeated
behind_the_same = refl

-- behind the larger one it is hidden
pub behind_a_larger : shown_of (rects_before low (low ∷ wide ∷ [])) low (pos 5) ≡ Hidden
behind_a_larger = refl

-- of two that are as high the first is nearer, so nothing stands before it
pub before_its_like : rects_before high (low ∷ high ∷ wide ∷ []) ≡ []
before_its_like = refl

-- a name of three letters stands to the right of its place and above it
pub named_above : beside scope (spot (pos 100) (pos 100)) (pos 3) [] ≡ Some (boxed (pos 140) (pos 35) (pos 90) (pos 45))
named_above = refl

-- where that is taken it stands below
pub named_below : beside scope (spot (pos 100) (pos 100)) (pos 3) (boxed (pos 140) (pos 35) (pos 90) (pos 45) ∷ []) ≡ Some
    (boxed (pos 140) (pos 120) (pos 90) (pos 45))
named_below = refl
