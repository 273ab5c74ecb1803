-- Which blocks of a part file are of the fixture.
use Rattle.std.specs.Prelude.{ℕ, Bool, true, false, List, [], ◌∷◌, codes, Option, Some, None}
use Rattle.std.specs.Option.{option_and_then}
use Rattle.toml.specs.Data.{Items, no_items, item, Members, get_member, as_bool, as_table}
use Rattle.vcm_keys.specs.Statements.{members_of}
use Rattle.vcm_keys.specs.Unused.{rows_of}

-- a truth value, false where there is none
abbrev pub or_false : Option Bool → Bool
or_false None = false
or_false (Some b) = b

-- whether a block is one of the fixture, as its key says
abbrev pub is_row_fixed : Option Members → Bool
is_row_fixed None = false
is_row_fixed (Some ms) = or_false (option_and_then as_bool (get_member (codes "fixture") ms))

-- the same of rows
abbrev pub row_fixtures : Items → List Bool
row_fixtures no_items = []
row_fixtures (item d ds) = is_row_fixed (as_table d) ∷ row_fixtures ds

-- those of a text with these members
abbrev pub fixtures_of_table : Option Members → List Bool
fixtures_of_table None = []
fixtures_of_table (Some t) = row_fixtures (rows_of t)

-- which of a part file's blocks are of the fixture
unfoldable pub block_fixtures : List ℕ → List Bool
block_fixtures text = fixtures_of_table (members_of text)
