-- Relations of absolute values: each is opened into two relations.
use Rattle.std.specs.Prelude.{ℕ, suc, codes, ◌-◌, ◌==◌, Bool, true, false, not, ◌&&◌, ◌||◌, nat_lt, if◌then◌else◌, List, [], ◌∷◌, ◌++◌, Option, Some, None}
use Rattle.std.specs.Str.{bytes_eq}
use Rattle.vcm_num.specs.Words.{look_up}
use Rattle.vcm_lines.specs.Bytes.{is_blank}
use Rattle.vcm_functions.specs.declared.relations.Stand.{Stand}
use Rattle.vcm_functions.specs.declared.relations.Stand.TheVariants.{Outside, Word, Quoted, Inside, Behind, Bound}
use Rattle.vcm_functions.specs.declared.relations.TheConstants.{MOST_DEPTH}
use Rattle.vcm_functions.specs.Words.{is_in_word, word_of}

-- an expression as it is read: where the reading stands, whether a relation may begin there, how many parentheses are open in what is read,
-- whether both relations are to hold, what stands in an absolute value, the relation behind it, the bound up to its last point and from there on,
-- the bytes that are held back, and those that are written
pub record Reading : Type 0 where
  pub stand : Stand
  pub free : Bool
  pub depth : ℕ
  pub both : Bool
  pub inner : List ℕ
  pub relation : List ℕ
  pub bound : List ℕ
  pub last : List ℕ
  pub held : List ℕ
  pub out : List ℕ

-- ---- words

-- whether a word, with the point that may stand in front of it, joins relations or negates one
abbrev pub is_joining : List ℕ → Bool
is_joining word = bytes_eq word (codes "AND") || (bytes_eq word (codes "OR") || bytes_eq word (codes "NOT"))

-- whether both relations are to hold, by the word of a relation
abbrev pub both_of : List ℕ → Option Bool
both_of word = look_up
    ((codes ".GT", false)
    ∷ (codes ".GE", false)
    ∷ (codes ".LT", true)
    ∷ (codes ".LE", true)
    ∷ []) word

-- whether a dotted word ends a bound: yes, no, or it can't stand behind one
abbrev pub ends_bound : List ℕ → Option Bool
ends_bound word = look_up
    ((codes ".AND", true)
    ∷ (codes ".OR", true)
    ∷ (codes ".NOT", false)
    ∷ (codes ".EQ", false)
    ∷ (codes ".NE", false)
    ∷ (codes ".GT", false)
    ∷ (codes ".GE", false)
    ∷ (codes ".LT", false)
    ∷ (codes ".LE", false)
    ∷ []) word

-- ---- what is written

-- nothing is read
abbrev pub nothing_read : Reading
nothing_read = record {
  stand = Outside;
  free = true;
  depth = 0;
  both = false;
  inner = [];
  relation = [];
  bound = [];
  last = [];
  held = [];
  out = [];
}

-- these bytes are written, and none is held back
abbrev pub wrote : Reading → List ℕ → Reading
wrote r bs = record nothing_read { free = false; out = r.out ++ bs }

-- what is compared, the parentheses behind it, the relation, and the bound
abbrev pub compared : List ℕ → List ℕ → List ℕ → List ℕ → List ℕ
compared inner behind relation bound = inner ++ behind ++ relation ++ bound

-- the word between the two relations
abbrev pub joint : Bool → List ℕ
joint true = codes ".AND.(0-("
joint false = codes ".OR.(0-("

-- an absolute value in a relation: what stands in it, or it below zero, is as far
abbrev pub opened : Bool → List ℕ → List ℕ → List ℕ → List ℕ
opened both inner relation bound =
    codes "((" ++ compared inner (codes ")") relation bound ++ joint both ++ compared inner (codes "))") relation bound ++ codes ")"

-- ---- each byte

-- a byte between words: behind a parenthesis a relation may begin, behind other marks not
abbrev pub outside_behind : Reading → ℕ → Reading
outside_behind r b =
    if is_in_word b then record r { stand = Word; held = r.held ++ b ∷ [] }
    else if b == 39 then record r { stand = Quoted; free = false; out = r.out ++ b ∷ [] }
    else record r { free = b == 40 || (r.free && is_blank b); out = r.out ++ b ∷ [] }

-- a byte behind what is no such relation
abbrev pub ended : Reading → ℕ → Reading
ended r b = outside_behind (wrote r r.held) b

-- one more byte is held back
abbrev pub holding : Reading → ℕ → Reading
holding r b = record r { held = r.held ++ b ∷ [] }

-- the end of a word at a byte: an absolute value begins, a relation may begin behind the point, or neither
abbrev pub word_ended : Reading → List ℕ → ℕ → Reading
word_ended r word b =
    if b == 40 && (r.free && bytes_eq word (codes "ABS")) then record (holding r b) { stand = Inside }
    else if b == 46 && is_joining word then record (wrote r (r.held ++ b ∷ [])) { free = true }
    else ended r b

-- a byte behind a word, or in it: blanks stand for nothing
abbrev pub word_behind : Reading → ℕ → Reading
word_behind r b = if is_in_word b || is_blank b then holding r b else word_ended r (word_of r.held) b

-- a byte of a quoted text
abbrev pub quoted_behind : Reading → ℕ → Reading
quoted_behind r b = record r { stand = if b == 39 then Outside else Quoted; out = r.out ++ b ∷ [] }

-- one more open parenthesis, up to the most
abbrev pub deeper : ℕ → ℕ
deeper n = if nat_lt n MOST_DEPTH then suc n else n

-- how many parentheses are open behind a byte
abbrev pub depth_behind : ℕ → ℕ → ℕ
depth_behind n b = if b == 40 then deeper n else if b == 41 then n - 1 else n

-- whether a byte can't stand in what is opened: a quote, and one parenthesis too many
abbrev pub is_odd : ℕ → ℕ → Bool
is_odd depth b = b == 39 || (b == 40 && not (nat_lt depth MOST_DEPTH))

-- a byte in an absolute value
abbrev pub inside_behind : Reading → ℕ → Reading
inside_behind r b =
    if is_odd r.depth b then ended r b
    else if b == 41 && r.depth == 0 then record (holding r b) { stand = Behind }
    else record (holding r b) { depth = depth_behind r.depth b; inner = r.inner ++ b ∷ [] }

-- one more byte of a relation
abbrev pub relating : Reading → ℕ → Reading
relating r b = record (holding r b) { relation = r.relation ++ b ∷ [] }

-- the point behind a relation
abbrev pub related : Option Bool → Reading → ℕ → Reading
related None r b = ended r b
related (Some both) r b = record (relating r b) { stand = Bound; both = both }

-- a byte behind an absolute value
abbrev pub relation_behind : Reading → ℕ → Reading
relation_behind r b =
    if is_in_word b || is_blank b then relating r b
    else if not (b == 46) then ended r b
    else if bytes_eq (word_of r.relation) [] then relating r b
    else related (both_of (word_of r.relation)) r b

-- a point in a bound: the end of a word that ends the bound, or can't stand there, or another
abbrev pub point_behind : Option Bool → Reading → ℕ → Reading
point_behind None r b = record (holding r b) { bound = r.bound ++ r.last; last = b ∷ [] }
point_behind (Some false) r b = ended r b
point_behind (Some true) r b = record (wrote r (opened r.both r.inner r.relation r.bound ++ r.last ++ b ∷ [])) { free = true }

-- a byte of a bound
abbrev pub bound_behind : Reading → ℕ → Reading
bound_behind r b =
    if is_odd r.depth b then ended r b
    else if b == 41 && r.depth == 0 then wrote r (opened r.both r.inner r.relation (r.bound ++ r.last) ++ b ∷ [])
    else if b == 46 && r.depth == 0 then point_behind (ends_bound (word_of r.last)) r b
    else record (holding r b) { depth = depth_behind r.depth b; last = r.last ++ b ∷ [] }

-- one more byte
abbrev pub read_behind : Stand → Reading → ℕ → Reading
read_behind Outside r b = outside_behind r b
read_behind Word r b = word_behind r b
read_behind Quoted r b = quoted_behind r b
read_behind Inside r b = inside_behind r b
read_behind Behind r b = relation_behind r b
read_behind Bound r b = bound_behind r b

-- all bytes
abbrev pub read_from : Reading → List ℕ → Reading
read_from r [] = r
read_from r (b ∷ bs) = read_from (read_behind r.stand r b) bs

-- all that is written
abbrev pub out_by : Stand → Reading → List ℕ
out_by Bound r = r.out ++ opened r.both r.inner r.relation (r.bound ++ r.last)
out_by s r = r.out ++ r.held

abbrev pub all_out : Reading → List ℕ
all_out r = out_by r.stand r

-- an expression with each absolute value that stands first in a relation opened
unfoldable pub opened_text : List ℕ → List ℕ
opened_text bs = all_out (read_from nothing_read bs)
