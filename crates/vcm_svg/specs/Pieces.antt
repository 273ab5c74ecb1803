-- Texts in pieces.
use Rattle.std.specs.Prelude.{ℕ, neg_ℤ, List, ◌++◌, flat_map, decimal, codes}
use Rattle.std.specs.Fmt.{signed_decimal}
use Rattle.vcm_num.specs.declared.point.Point.{Point}
use Rattle.vcm_num.specs.Point.{coordinate}
use Rattle.vcm_num.specs.Texts.{thousandths}
use Rattle.vcm_svg.specs.declared.pieces.Fragment.{Fragment}
use Rattle.vcm_svg.specs.declared.pieces.Fragment.TheVariants.{Text, Number, Back, Count, Length, At}

-- texts one after another
abbrev pub joined : List (List ℕ) → List ℕ
joined all = flat_map (λ t. t) all

-- a point in millimetres, with blanks between its coordinates
abbrev pub point_text : Point → List ℕ
point_text p =
    thousandths (coordinate p 0) ++ (codes " " ++ (thousandths (coordinate p 1) ++ (codes " " ++ thousandths (coordinate p 2))))

-- the text of a piece
abbrev pub piece_text : Fragment → List ℕ
piece_text (Text bytes) = bytes.now
piece_text (Number z) = signed_decimal z
piece_text (Back z) = signed_decimal (neg_ℤ z)
piece_text (Count n) = decimal n
piece_text (Length z) = thousandths z
piece_text (At p) = point_text p

-- the texts of pieces, one after another
abbrev pub texts : List Fragment → List ℕ
texts pieces = flat_map piece_text pieces
