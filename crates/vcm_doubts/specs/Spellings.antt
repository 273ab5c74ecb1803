-- The words of a text as they are spelled, and the names that are spelled in two ways.
use Rattle.std.specs.Prelude.{ℕ, ◌==◌, Bool, true, false, not, ◌&&◌, ◌||◌, if◌then◌else◌, List, [], ◌∷◌, ◌++◌, map}
use Rattle.std.specs.List.{list_any, filter}
use Rattle.std.specs.Char.{is_ascii_digit, is_ascii_lowercase}
use Rattle.std.specs.Str.{bytes_eq}
use Rattle.vcm_lines.specs.Bytes.{upper, is_blank}
use Rattle.vcm_items.specs.NameBytes.{is_name_byte}
use Rattle.vcm_doubts.specs.declared.spellings.Stand.{Stand}
use Rattle.vcm_doubts.specs.declared.spellings.Stand.TheVariants.{Outside, Dollar, Quoted, Comment}

-- ---- the words of a text

-- where the reading of a text stands: outside texts and comments, behind a dollar, in a text or in a comment; the word that is open, and those before it
pub record Reading : Type 0 where
  pub stand : Stand
  pub word : List ℕ
  pub words : List (List ℕ)

-- nothing is read
abbrev pub unread : Reading
unread = record { stand = Outside; word = []; words = [] }

-- whether a byte may stand in a name, in either case
abbrev pub is_spelled : ℕ → Bool
is_spelled b = is_name_byte (upper b)

-- whether a word may be a name: it begins with no digit
abbrev pub may_be_name : List ℕ → Bool
may_be_name [] = false
may_be_name (b ∷ bs) = not (is_ascii_digit b)

-- the word that is open ends
abbrev pub closed : Stand → Reading → Reading
closed stand r = record {
  stand = stand;
  word = [];
  words = if may_be_name r.word then r.words ++ r.word ∷ [] else r.words;
}

-- a byte outside texts and comments; blanks stand for nothing, as in the language
abbrev pub outside_behind : Reading → ℕ → Reading
outside_behind r b =
    if is_spelled b then record { stand = Outside; word = r.word ++ b ∷ []; words = r.words }
    else if is_blank b then r
    else if b == 36 then record r { stand = Dollar }
    else if b == 39 then closed Quoted r
    else closed Outside r

-- whether a byte ends a line
abbrev pub is_line_end : ℕ → Bool
is_line_end b = b == 10 || b == 13

-- a byte behind a dollar: another one begins a comment, and where the line ends the word goes on in the next one
abbrev pub dollar_behind : Reading → ℕ → Reading
dollar_behind r b =
    if b == 36 then closed Comment r
    else if b == 10 then record r { stand = Outside }
    else if is_blank b || b == 13 then r
    else outside_behind (record r { stand = Outside }) b

-- one more byte is read
abbrev pub read_behind : Stand → Reading → ℕ → Reading
read_behind Outside r b = outside_behind r b
read_behind Dollar r b = dollar_behind r b
read_behind Quoted r b = if b == 39 || is_line_end b then closed Outside r else r
read_behind Comment r b = if is_line_end b then closed Outside r else r

-- all bytes are read
abbrev pub read_from : Reading → List ℕ → Reading
read_from r [] = r
read_from r (b ∷ bs) = read_from (read_behind r.stand r b) bs

-- the words of a text, in order, as they are spelled
abbrev pub spellings : List ℕ → List (List ℕ)
spellings text = (closed Outside (read_from unread text)).words

-- ---- names in two ways

-- whether a word has a letter in lower case
abbrev pub is_lowered : List ℕ → Bool
is_lowered w = list_any is_ascii_lowercase w

-- whether two words are one name, spelled otherwise
abbrev pub is_respelled : List ℕ → List ℕ → Bool
is_respelled w v = bytes_eq (map upper w) (map upper v) && not (bytes_eq w v)

-- words, each once
abbrev pub once : List (List ℕ) → List (List ℕ) → List (List ℕ)
once found [] = found
once found (w ∷ ws) = once (if list_any (bytes_eq w) found then found else found ++ w ∷ []) ws

-- the words with a letter in lower case that are spelled otherwise elsewhere
abbrev pub respelled : List (List ℕ) → List (List ℕ)
respelled ws = filter (λ w. list_any (is_respelled w) ws) (once [] (filter is_lowered ws))

-- the names that a text spells in two ways, as the language reads them
abbrev pub spelled_twice : List ℕ → List (List ℕ)
spelled_twice text = map (map upper) (respelled (spellings text))
