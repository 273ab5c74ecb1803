-- Where the numbers of points stand in a view.
use Rattle.std.specs.Prelude.{ℤ, pos, List, [], ◌∷◌, ◌++◌, length, Option, Some, None}
use Rattle.std.specs.Fmt.{signed_decimal}
use Rattle.vcm_svg.specs.declared.rect.Rect.{Rect}
use Rattle.vcm_svg.specs.declared.rect.Spot.{Spot}
use Rattle.vcm_picture.specs.Sights.{Scope}
use Rattle.vcm_picture.specs.Names.{beside}
use Rattle.vcm_picture.specs.View.{spot_of}
use Rattle.vcm_sheet.specs.declared.numbers.Numbered.{Numbered}
use Rattle.vcm_sheet.specs.declared.points.Pointed.{Pointed}

-- how many letters a number has
abbrev pub letters_of : ℤ → ℤ
letters_of n = pos (length (signed_decimal n))

-- the boxes that are taken, and the numbers that stand
pub record Numbering : Type 0 where
  pub taken : List Rect
  pub numbers : List Numbered

-- with a point's number in its box, if it has one
abbrev pub with_box : Numbering → Pointed → Spot → Option Rect → Numbering
with_box n p at None = n
with_box n p at (Some a) = record { taken = n.taken ++ a ∷ []; numbers = n.numbers ++ record { point = p; at = at; area = a } ∷ [] }

-- with the number of a point in the first box beside it that is free
abbrev pub with_number : Scope → Pointed → Numbering → Numbering
with_number s p n = with_box n p (spot_of s p.touched.at) (beside s (spot_of s p.touched.at) (letters_of p.number) n.taken)

-- with the numbers of points, one after another
abbrev pub with_numbers : Scope → List Pointed → Numbering → Numbering
with_numbers s [] n = n
with_numbers s (p ∷ ps) n = with_numbers s ps (with_number s p n)

-- the numbers of points that find room beside what is taken
abbrev pub numbers_beside : Scope → List Pointed → List Rect → List Numbered
numbers_beside s ps taken = (with_numbers s ps (record { taken = taken; numbers = [] })).numbers
