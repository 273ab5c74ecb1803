-- Pieces of a text that may be the same as a short name.
use Rattle.std.specs.Prelude.{◌==◌, Bool, length}
use Rattle.vcm_num.specs.declared.limits.TheConstants.{LONGEST_NAME}
use Rattle.vcm_short_names.specs.declared.pieces.Piece.{Piece}

-- whether a piece has as many bytes as short names have
abbrev pub is_full : Piece → Bool
is_full p = length p.bytes == LONGEST_NAME
