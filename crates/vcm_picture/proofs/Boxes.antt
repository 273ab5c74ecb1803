-- Boxes of texts.
use Rattle.std.proofs.Common.{◌≡◌, ℤ, pos, ◌+ℤ◌, ◌-ℤ◌, ◌*ℤ◌, false, cond, List, w64, FitsSigned, arith, ap, sym, ◌∙◌, refl}
use Rattle.std.proofs.lemmas.Int.{ints}
use Rattle.std.proofs.lemmas.Bool.{cond-false}
use Rattle.std.specs.Int.{int_div_euclid, int_min}
use Rattle.std.specs.List.{find}
use Rattle.std.specs.Prelude.{Option, int_lt}
use Rattle.vcm_svg.specs.declared.rect.Rect.{Rect}
use Rattle.vcm_svg.specs.declared.rect.Spot.{Spot}
use Rattle.vcm_picture.specs.Sights.{Scope}
use Rattle.vcm_picture.specs.declared.names.Named.{Named}
use Rattle.vcm_picture.specs.Names.{is_free, sides, beside, Naming}
use Rattle.vcm_picture.specs.Shown.{size_of, corners}
use Rattle.vcm_svg.specs.Ranges.{IsExtent, IsRect, IsSpot, IsUnit}

pub size_same : (r : Rect) (digits unit a b m n : ℤ) → n ≡ int_min unit m → m ≡ int_min a b
    → a ≡ int_div_euclid (r.right -ℤ r.left) (pos 6 *ℤ digits +ℤ pos 4) → b ≡ int_div_euclid (r.bottom -ℤ r.top) (pos 11)
    → n ≡ size_of r digits unit
size_same r digits unit a b m n e f g h = rw (e, f, g, h) refl

-- where a size isn't below 1, the other branch
pub unless_small : {A : Type 0} (z : ℤ) (x y r : A) → int_lt z (pos 1) ≡ false → r ≡ y → r ≡ cond (int_lt z (pos 1)) x y
unless_small z x y r h e = e ∙ sym (cond-false (int_lt z (pos 1)) x y h)

pub found_beside : (s : Scope) (p : Spot) (letters wide : ℤ) (taken boxes : List Rect) (r : Option Rect) → r ≡ find (λ a. is_free a s.wide taken) boxes
    → boxes ≡ sides p s.unit wide → wide ≡ pos 6 *ℤ letters *ℤ s.unit → r ≡ beside s p letters taken
found_beside s p letters wide taken boxes r e h k =
    e ∙ ap (find (λ a. is_free a s.wide taken)) (h ∙ ap (sides p s.unit) k)

-- the boxes that are taken, and the names that stand
abbrev pub naming : List Rect → List Named → Naming
naming taken named = record { taken = taken; named = named }

-- the numbers from which the boxes in the corners of a rectangle are made
pub record CornersFit (r : Rect) (w s : ℤ) : Type 0 where
  pub left : FitsSigned w64 r.left
  pub top : FitsSigned w64 r.top
  pub right : FitsSigned w64 r.right
  pub bottom : FitsSigned w64 r.bottom
  pub wide : FitsSigned w64 w
  pub size : FitsSigned w64 s
  pub double : FitsSigned w64 (pos 2 *ℤ s)
  pub high : FitsSigned w64 (pos 9 *ℤ s)
  pub lift : FitsSigned w64 (pos 10 *ℤ s)
  pub from_left : FitsSigned w64 (r.left +ℤ pos 2 *ℤ s)
  pub inside : FitsSigned w64 (r.right -ℤ pos 2 *ℤ s)
  pub from_right : FitsSigned w64 (r.right -ℤ pos 2 *ℤ s -ℤ w)
  pub from_top : FitsSigned w64 (r.top +ℤ s)
  pub from_bottom : FitsSigned w64 (r.bottom -ℤ pos 10 *ℤ s)

pub corners_fit : (r : Rect) (wide size : ℤ) → IsRect r → IsExtent wide → IsUnit size → CornersFit r wide size
corners_fit r wide size h k u = record {
  left = omega (arith, ints);
  top = omega (arith, ints);
  right = omega (arith, ints);
  bottom = omega (arith, ints);
  wide = omega (arith, ints);
  size = omega (arith, ints);
  double = omega (arith, ints);
  high = omega (arith, ints);
  lift = omega (arith, ints);
  from_left = omega (arith, ints);
  inside = omega (arith, ints);
  from_right = omega (arith, ints);
  from_top = omega (arith, ints);
  from_bottom = omega (arith, ints);
}

-- the numbers from which the boxes beside a place are made
pub record SidesFit (p : Spot) (u w : ℤ) : Type 0 where
  pub x : FitsSigned w64 p.x
  pub y : FitsSigned w64 p.y
  pub unit : FitsSigned w64 u
  pub wide : FitsSigned w64 w
  pub fall : FitsSigned w64 (pos 4 *ℤ u)
  pub gap : FitsSigned w64 (pos 8 *ℤ u)
  pub high : FitsSigned w64 (pos 9 *ℤ u)
  pub rise : FitsSigned w64 (pos 13 *ℤ u)
  pub right : FitsSigned w64 (p.x +ℤ pos 8 *ℤ u)
  pub inside : FitsSigned w64 (p.x -ℤ pos 8 *ℤ u)
  pub left : FitsSigned w64 (p.x -ℤ pos 8 *ℤ u -ℤ w)
  pub upper : FitsSigned w64 (p.y -ℤ pos 13 *ℤ u)
  pub lower : FitsSigned w64 (p.y +ℤ pos 4 *ℤ u)

pub sides_fit : (p : Spot) (u w : ℤ) → IsSpot p → IsUnit u → IsExtent w → SidesFit p u w
sides_fit p u w h k e = record {
  x = omega (arith, ints);
  y = omega (arith, ints);
  unit = omega (arith, ints);
  wide = omega (arith, ints);
  fall = omega (arith, ints);
  gap = omega (arith, ints);
  high = omega (arith, ints);
  rise = omega (arith, ints);
  right = omega (arith, ints);
  inside = omega (arith, ints);
  left = omega (arith, ints);
  upper = omega (arith, ints);
  lower = omega (arith, ints);
}
