-- Where the keys of a part file stand. A statement is the fewest lines that are TOML by themselves.
use Rattle.std.specs.Prelude.{ℕ, ◌+◌, ◌-◌, ◌==◌, ◌&&◌, ◌||◌, nat_le, nat_lt, Bool, false, List, [], ◌∷◌, ◌++◌, codes, Option, Some, None, if◌then◌else◌}
use Rattle.std.specs.List.{fold}
use Rattle.std.specs.Str.{bytes_eq}
use Rattle.vcm_num.specs.Lines.{whole_lines}
use Rattle.vcm_boxes.specs.Labels.{label_of}
use Rattle.vcm_keys.specs.declared.place.KeyPlace.{KeyPlace}
use Rattle.vcm_keys.specs.declared.statement.PartStatement.{PartStatement}
use Rattle.vcm_keys.specs.declared.statement.PartStatement.TheVariants.{Blank, Entry, Block, Inside, Heading}
use Rattle.vcm_keys.specs.Statements.{statement_alone}
use Rattle.vcm_num.specs.declared.limits.TheConstants.{MOST_BLOCKS}

-- what was read: the places, the bytes of the open statement with its first line, the next line, how many blocks there are, and whose the next keys are
pub record Reading : Type 0 where
  pub places : List KeyPlace
  pub taken : List ℕ
  pub first : ℕ
  pub line : ℕ
  pub blocks : ℕ
  pub owner : Option ℕ

-- before the first line; the first keys are the machine's
abbrev pub start : Reading
start = record { places = []; taken = []; first = 1; line = 1; blocks = 0; owner = Some 0 }

-- nothing more is looked for: behind a million lines, a hundred lines of one statement, or more blocks than a part may have
abbrev pub is_lost : Reading → Bool
is_lost r = nat_le 1000000 r.line || (nat_le 100 (r.line - r.first) || nat_lt MOST_BLOCKS r.blocks)

-- a key of this block at the open statement's first line
abbrev pub put : ℕ → Option (List ℕ) → Reading → List KeyPlace
put block key r = r.places ++ record { line = r.first; block = block; key = key } ∷ []

-- whether a key is this one
abbrev pub is_key : List ℕ → Option (List ℕ) → Bool
is_key word None = false
is_key word (Some key) = bytes_eq key word

-- the key of blocks
abbrev pub block_key : Option (List ℕ)
block_key = label_of 32 (codes "block")

-- the places with that of a statement
abbrev pub places_with : PartStatement → Reading → List KeyPlace
places_with Blank r = r.places
places_with (Entry key) r = elim r.owner [ Some block ↦ put block key r | None ↦ r.places ]
places_with Block r = put 0 block_key r
places_with (Inside key) r = put r.blocks key r
places_with (Heading key) r = put 0 key r

-- how many blocks there are behind a statement, and whose the next keys are
abbrev pub blocks_with : PartStatement → Reading → ℕ
blocks_with Block r = r.blocks + 1
blocks_with _ r = r.blocks

abbrev pub owner_with : PartStatement → Reading → Option ℕ
owner_with Blank r = r.owner
owner_with (Entry key) r = r.owner
owner_with Block r = Some (r.blocks + 1)
owner_with _ r = None

-- the next statement, which begins on the next line
abbrev pub begun : Reading → ℕ → Option ℕ → Reading
begun r blocks owner = record { places = r.places; taken = []; first = r.line + 1; line = r.line + 1; blocks = blocks; owner = owner }

-- what was read with a statement that ends here, if one does
abbrev pub ended : Reading → Option PartStatement → Reading
ended r None = record (r) { line = r.line + 1 }
ended r (Some s) = begun (record (r) { places = places_with s r }) (blocks_with s r) (owner_with s r)

-- what was read with the line that is open
abbrev pub judged : Reading → Reading
judged r = ended r (statement_alone r.taken)

-- what was read with one more line
unfoldable pub with_line : Reading → List ℕ → Reading
with_line r line = if is_lost r then r else judged (record (r) { taken = r.taken ++ line })

-- the places of all keys of a text
unfoldable pub places_of : List ℕ → List KeyPlace
places_of text = (fold with_line start (whole_lines text)).places

-- whether a place is the key of blocks
abbrev pub is_block_place : KeyPlace → Bool
is_block_place p = p.block == 0 && is_key (codes "block") p.key

-- the lines on which blocks begin, in their order
abbrev pub block_lines : List KeyPlace → List ℕ
block_lines [] = []
block_lines (p ∷ ps) = if is_block_place p then p.line ∷ block_lines ps else block_lines ps

-- the first line of a key of the machine, which is block 0, or of a block; 0 where it isn't known
abbrev pub line_of : ℕ → List ℕ → List KeyPlace → ℕ
line_of block key [] = 0
line_of block key (p ∷ ps) = if (p.block == block) && is_key key p.key then p.line else line_of block key ps

-- the line on which the statement begins that is open at the end; none where all lines are TOML statement by statement, or too many to be read
abbrev pub open_from : ℕ → List ℕ → Option ℕ
open_from first [] = None
open_from first (b ∷ bs) = Some first

abbrev pub open_line_in : Reading → Option ℕ
open_line_in r = open_from r.first r.taken

unfoldable pub open_line : List ℕ → Option ℕ
open_line text = open_line_in (fold with_line start (whole_lines text))
