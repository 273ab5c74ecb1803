-- The statements of a part file: what each of them is, if it is TOML by itself.
use Rattle.std.specs.Prelude.{ℕ, ◌==◌, ◌&&◌, ◌||◌, Bool, true, false, List, [], ◌∷◌, codes, Option, Some, None, option_map, if◌then◌else◌}
use Rattle.std.specs.Str.{is_utf8, bytes_eq}
use Rattle.toml.specs.Data.{Data, as_table, Members, no_members, member}
use Rattle.toml.specs.Parse.{parse_document}
use Rattle.vcm_boxes.specs.Labels.{label_of}
use Rattle.vcm_keys.specs.declared.statement.PartStatement.{PartStatement}
use Rattle.vcm_keys.specs.declared.statement.PartStatement.TheVariants.{Blank, Entry, Block, Inside, Heading}

-- the members of bytes that are TOML
abbrev pub members_of : List ℕ → Option Members
members_of bytes = if is_utf8 bytes then parse_document bytes else None

-- whether a statement is a heading: its first byte that is no blank is a bracket
abbrev pub is_heading : List ℕ → Bool
is_heading [] = false
is_heading (b ∷ bs) = b == 91 || ((b == 32 || b == 9) && is_heading bs)

-- the first key of some members, with its value
abbrev pub first_member : Members → Option (List ℕ × Data)
first_member no_members = None
first_member (member key d ms) = Some (key, d)

-- the first key of the members that a value is, if it is any
abbrev pub inner_member : Option Members → Option (List ℕ × Data)
inner_member None = None
inner_member (Some ms) = first_member ms

-- the heading of a block, or of a table in it with this key
abbrev pub of_inner : Option (List ℕ × Data) → PartStatement
of_inner None = Block
of_inner (Some inner) = Inside (label_of 32 inner.0)

abbrev pub of_block : Data → PartStatement
of_block d = of_inner (inner_member (as_table d))

-- what a statement with this key and value is, which is a heading or an entry
abbrev pub of_member : Bool → Option (List ℕ × Data) → PartStatement
of_member heading None = Blank
of_member false (Some m) = Entry (label_of 32 m.0)
of_member true (Some m) = if bytes_eq m.0 (codes "block") then of_block m.1 else Heading (label_of 32 m.0)

-- what a statement with these members is
abbrev pub statement_of : Bool → Members → PartStatement
statement_of heading ms = of_member heading (first_member ms)

-- what these bytes are, if they are TOML by themselves
unfoldable pub statement_alone : List ℕ → Option PartStatement
statement_alone bytes = option_map (statement_of (is_heading bytes)) (members_of bytes)
