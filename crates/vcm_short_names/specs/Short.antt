-- Names that are longer than sixteen bytes, and the short ones that they get.
use Rattle.std.specs.Prelude.{ℕ, zero, suc, ◌+◌, ◌/◌, ◌%◌, ◌==◌, Bool, false, not, ◌&&◌, ◌||◌, nat_lt, if◌then◌else◌, List, [], ◌∷◌, ◌++◌, length, map, take, drop, Option, Some, None}
use Rattle.std.specs.List.{list_any, flat_map}
use Rattle.std.specs.Str.{bytes_eq}
use Rattle.vcm_num.specs.declared.limits.TheConstants.{LONGEST_NAME}
use Rattle.vcm_lines.specs.Bytes.{upper, is_digit}
use Rattle.vcm_short_names.specs.declared.pieces.Piece.{Piece}
use Rattle.vcm_short_names.specs.declared.long.LongName.{LongName}
use Rattle.vcm_short_names.specs.declared.short.ShortName.{ShortName}
use Rattle.vcm_short_names.specs.declared.short.TheConstants.{LONGEST_FRONT, MOST_ALIKE}
use Rattle.vcm_short_names.specs.Pieces.{pieces}

-- ---- long names

-- whether a word begins with a letter or an underscore
abbrev pub begins_name : List ℕ → Bool
begins_name [] = false
begins_name (b ∷ bs) = not (is_digit b)

-- whether a word is a name that is too long
abbrev pub is_long : List ℕ → Bool
is_long w = nat_lt LONGEST_NAME (length w) && begins_name w

-- whether two words are the same name: they are equal in upper case
abbrev pub is_same : List ℕ → List ℕ → Bool
is_same w v = bytes_eq (map upper w) (map upper v)

-- whether a piece is a long name that isn't among these
abbrev pub is_new : List LongName → Piece → Bool
is_new longs p = p.word && (is_long p.bytes && not (list_any (λ l. is_same l.name p.bytes) longs))

-- the long names behind one more piece of a text
abbrev pub longs_behind : List LongName → Piece → List LongName
longs_behind longs p = if is_new longs p then longs ++ record { name = map upper p.bytes; line = p.line } ∷ [] else longs

-- the long names behind more pieces
abbrev pub longs_from : List LongName → List Piece → List LongName
longs_from longs [] = longs
longs_from longs (p ∷ ps) = longs_from (longs_behind longs p) ps

-- the long names of pieces, each once, in the order of first appearance
abbrev pub longs_in : List Piece → List LongName
longs_in ps = longs_from [] ps

-- ---- their short names

-- a name made short: its first sixteen bytes, or with a number from 1 to 99 its first thirteen, an underscore and two digits
abbrev pub made_short : ℕ → List ℕ → List ℕ
made_short n long =
    if n == 0 then take LONGEST_NAME long
    else take LONGEST_FRONT long ++ 95 ∷ (48 + n / 10) ∷ (48 + n % 10) ∷ []

-- whether a name is taken: a word of the text is the same, or what another name got
abbrev pub is_taken : List Piece → List ShortName → List ℕ → Bool
is_taken ps names w = list_any (λ p. p.word && is_same p.bytes w) ps || list_any (λ n. is_same n.short w) names

-- the first short name that isn't taken, of so many from this number on
unfoldable pub free_from : List Piece → List ShortName → List ℕ → ℕ → ℕ → Option (List ℕ)
free_from ps names long zero n = None
free_from ps names long (suc most) n =
    if is_taken ps names (made_short n long) then free_from ps names long most (suc n) else Some (made_short n long)

-- the short name of a long one, if one isn't taken
abbrev pub free_short : List Piece → List ShortName → List ℕ → Option (List ℕ)
free_short ps names long = free_from ps names long MOST_ALIKE 0

-- a long name with its short one, if it gets one
abbrev pub named : LongName → Option (List ℕ) → List ShortName
named l None = []
named l (Some short) = record { long = l.name; short = short; line = l.line } ∷ []

-- the names behind one more long one
abbrev pub names_behind : List Piece → List ShortName → LongName → List ShortName
names_behind ps names l = names ++ named l (free_short ps names l.name)

-- the names behind more long ones
abbrev pub names_from : List Piece → List ShortName → List LongName → List ShortName
names_from ps names [] = names
names_from ps names (l ∷ longs) = names_from ps (names_behind ps names l) longs

-- the names that pieces of a text get
abbrev pub names_in : List Piece → List ShortName
names_in ps = names_from ps [] (longs_in ps)

-- the long names of a text that get short ones, in the order of their first appearance
abbrev pub short_names : List ℕ → List ShortName
short_names text = names_in (pieces text)

-- ---- the text

-- a long word made short as it is spelled: to its first sixteen bytes, or to its first thirteen with what stands behind them in the short name
abbrev pub respelled : List ℕ → List ℕ → List ℕ
respelled short w =
    if is_same short (take LONGEST_NAME w) then take LONGEST_NAME w
    else take LONGEST_FRONT w ++ drop LONGEST_FRONT short

-- a word with the short name that it has among these, if it has one
abbrev pub word_out : List ShortName → List ℕ → List ℕ
word_out [] w = w
word_out (n ∷ names) w = if is_same n.long w then respelled n.short w else word_out names w

-- a piece of a text as it is written
abbrev pub piece_out : List ShortName → Piece → List ℕ
piece_out names p = if p.word && is_long p.bytes then word_out names p.bytes else p.bytes

-- pieces as they are written
abbrev pub text_out : List ShortName → List Piece → List ℕ
text_out names ps = flat_map (piece_out names) ps

-- a text with its long names written short; all else is as it was
abbrev pub shortened : List ℕ → List ℕ
shortened text = text_out (short_names text) (pieces text)
