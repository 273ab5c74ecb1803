-- Texts in pieces.
use Rattle.std.specs.Prelude.{ℕ, List, ◌++◌, flat_map, codes}
use Rattle.std.specs.Fmt.{signed_decimal, decimal}
use Rattle.vcm_num.specs.declared.point.Point.{Point}
use Rattle.vcm_num.specs.Point.{coordinate}
use Rattle.vcm_hardware.specs.declared.pieces.Piece.{Piece}
use Rattle.vcm_hardware.specs.declared.pieces.Piece.TheVariants.{Text, Number, At, Count}

-- a point as an array of three numbers
abbrev pub point_text : Point → List ℕ
point_text p =
    codes "["
    ++ (signed_decimal (coordinate p 0) ++ (codes ", " ++ (signed_decimal (coordinate p 1) ++ (codes ", " ++ (signed_decimal (coordinate p 2) ++ codes "]")))))

-- the text of a piece
abbrev pub piece_text : Piece → List ℕ
piece_text (Text bytes) = bytes.now
piece_text (Number z) = signed_decimal z
piece_text (At p) = point_text p
piece_text (Count n) = decimal n

-- the texts of pieces, one after another
abbrev pub texts : List Piece → List ℕ
texts pieces = flat_map piece_text pieces

-- texts one after another
abbrev pub joined : List (List ℕ) → List ℕ
joined all = flat_map (λ t. t) all
