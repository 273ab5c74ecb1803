-- What was measured at the touched points, in part coordinates.
use Rattle.std.specs.Prelude.{ℕ, ℤ, nat_eq, if◌then◌else◌, List, [], ◌∷◌, Option, Some, None, codes}
use Rattle.vcm_num.specs.Texts.{thousandths}
use Rattle.vcm_svg.specs.Pieces.{point_text}
use Rattle.vcm_sheet.specs.declared.readings.Reading.{Reading}

-- what a step measured, if it is among these
abbrev pub reading_of : List Reading → ℕ → Option Reading
reading_of [] step = None
reading_of (r ∷ rs) step = if nat_eq r.step step then Some r else reading_of rs step

-- where the point was touched
abbrev pub place_words : Option Reading → List ℕ
place_words None = codes "-"
place_words (Some r) = point_text r.at

-- a deviation, if there is one
abbrev pub length_words : Option ℤ → List ℕ
length_words None = codes "-"
length_words (Some z) = thousandths z

-- how far the point lies off its nominal place
abbrev pub deviation_words : Option Reading → List ℕ
deviation_words None = codes "-"
deviation_words (Some r) = length_words r.deviation
