-- Names that were written short, written long again.
use Rattle.std.specs.Prelude.{ℕ, Bool, if◌then◌else◌, List, [], ◌∷◌}
use Rattle.std.specs.List.{list_any, flat_map}
use Rattle.vcm_short_names.specs.declared.pieces.Piece.{Piece}
use Rattle.vcm_short_names.specs.declared.short.ShortName.{ShortName}
use Rattle.vcm_short_names.specs.Pieces.{pieces}
use Rattle.vcm_short_names.specs.Short.{is_same}

-- the long name of which a word is the short one, or else the word
abbrev pub long_out : List ShortName → List ℕ → List ℕ
long_out [] w = w
long_out (n ∷ names) w = if is_same n.short w then n.long else long_out names w

-- a piece of a text, where a short name is written long
abbrev pub long_piece : List ShortName → Piece → List ℕ
long_piece names p = if p.word then long_out names p.bytes else p.bytes

-- pieces of a text with their long names
abbrev pub long_pieces : List ShortName → List Piece → List ℕ
long_pieces names ps = flat_map (long_piece names) ps

-- a text whose words that are short names are written long; all else is as it was, piece by piece
abbrev pub lengthened : List ShortName → List ℕ → List ℕ
lengthened names text = long_pieces names (pieces text)

-- whether a word is one of these short names
abbrev pub is_short : List ShortName → List ℕ → Bool
is_short names w = list_any (λ n. is_same n.short w) names
