-- The words of a text, and what stands between them.
use Rattle.std.specs.Prelude.{ℕ, ◌+◌, ◌==◌, Bool, true, false, not, ◌&&◌, ◌||◌, nat_lt, if◌then◌else◌, List, [], ◌∷◌, ◌++◌, map}
use Rattle.std.specs.List.{filter}
use Rattle.vcm_lines.specs.Bytes.{is_run}
use Rattle.vcm_short_names.specs.declared.pieces.Piece.{Piece}
use Rattle.vcm_short_names.specs.declared.pieces.Stand.{Stand}
use Rattle.vcm_short_names.specs.declared.pieces.Stand.TheVariants.{Between, Word, Dollar, Quoted, Comment}

-- whether a byte ends a line
abbrev pub is_line_end : ℕ → Bool
is_line_end b = b == 10 || b == 13

-- where the reading stands behind a byte outside quoted texts and comments: letters, digits and underscores are a word's
abbrev pub stand_outside : ℕ → Stand
stand_outside b =
    if is_run b then Word
    else if b == 39 then Quoted
    else if b == 36 then Dollar
    else Between

-- where the reading stands behind a byte; a quoted text that isn't closed ends with its line
abbrev pub stand_behind : Stand → ℕ → Stand
stand_behind Between b = stand_outside b
stand_behind Word b = stand_outside b
stand_behind Dollar b = if b == 36 then Comment else stand_outside b
stand_behind Quoted b = if b == 39 || is_line_end b then Between else Quoted
stand_behind Comment b = if is_line_end b then Between else Comment

-- whether the byte that was read last is a word's
abbrev pub is_word : Stand → Bool
is_word Word = true
is_word s = false

-- how far a text is read: where the reading stands, on which line, the bytes of the piece that is open, and the pieces before it
pub record Reading : Type 0 where
  pub stand : Stand
  pub line : ℕ
  pub bytes : List ℕ
  pub pieces : List Piece

-- nothing is read
abbrev pub unread : Reading
unread = record { stand = Between; line = 1; bytes = []; pieces = [] }

-- the piece that is open
abbrev pub open_piece : Reading → Piece
open_piece r = record { word = is_word r.stand; line = r.line; bytes = r.bytes }

-- the piece that is open ends
abbrev pub closed : Reading → Reading
closed r = record r { bytes = []; pieces = r.pieces ++ open_piece r ∷ [] }

-- whether a piece ends between two bytes: one is a word's, and the other isn't
abbrev pub is_end : Bool → Bool → Bool
is_end true word = not word
is_end false word = word

-- the line behind a byte; lines above 4,294,967,295 have that number
abbrev pub line_behind : ℕ → ℕ → ℕ
line_behind line b = if b == 10 && nat_lt line 4294967295 then line + 1 else line

-- one more byte is open
abbrev pub added : Stand → Reading → ℕ → Reading
added s r b = record { stand = s; line = line_behind r.line b; bytes = r.bytes ++ b ∷ []; pieces = r.pieces }

-- one more byte is read, behind which the reading stands here
abbrev pub read_as : Stand → Reading → ℕ → Reading
read_as s r b = added s (if is_end (is_word r.stand) (is_word s) then closed r else r) b

-- all bytes are read
abbrev pub read_from : Reading → List ℕ → Reading
read_from r [] = r
read_from r (b ∷ bs) = read_from (read_as (stand_behind r.stand b) r b) bs

-- a text in pieces: its words, and what stands between them, byte for byte
abbrev pub pieces : List ℕ → List Piece
pieces text = (closed (read_from unread text)).pieces

-- the words of a text, in order, as they are spelled
abbrev pub words : List ℕ → List (List ℕ)
words text = map (λ p. p.bytes) (filter (λ p. p.word) (pieces text))
