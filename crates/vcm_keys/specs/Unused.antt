-- The keys of a part file that nothing uses, and the names of its blocks.
use Rattle.std.specs.Prelude.{ℕ, ◌+◌, ◌==◌, ◌&&◌, ◌||◌, not, nat_le, Bool, true, false, List, [], ◌∷◌, ◌++◌, length, codes, Option, Some, None, if◌then◌else◌}
use Rattle.std.specs.List.{list_all, list_any, filter}
use Rattle.std.specs.Option.{option_and_then}
use Rattle.std.specs.Str.{bytes_eq}
use Rattle.toml.specs.Data.{Data, Items, no_items, item, Members, no_members, member, get_member, as_str, as_array, as_table}
use Rattle.vcm_boxes.specs.Labels.{label_of}
use Rattle.vcm_keys.specs.declared.place.KeyPlace.{KeyPlace}
use Rattle.vcm_keys.specs.Statements.{members_of}
use Rattle.vcm_keys.specs.Places.{places_of}

-- whether a name can be shown: 1 to 32 printable bytes
abbrev pub is_name : List ℕ → Bool
is_name name = nat_le 1 (length name) && nat_le (length name) 32 && list_all (λ b. nat_le 32 b && nat_le b 126) name

-- the name that a value is, if it can be shown
abbrev pub shown_name : Option (List ℕ) → Option (List ℕ)
shown_name None = None
shown_name (Some name) = if is_name name then Some name else None

abbrev pub name_of : Data → Option (List ℕ)
name_of d = shown_name (as_str d)

-- whether there is one
abbrev pub is_some_name : Option (List ℕ) → Bool
is_some_name None = false
is_some_name (Some name) = true

-- whether a key of the machine is used
abbrev pub is_machine_key : List ℕ → Bool
is_machine_key key = list_any (λ k. bytes_eq k key) (codes "low" ∷ codes "high" ∷ codes "home" ∷ codes "tip" ∷ codes "block" ∷ [])

-- whether a key of a block is used, with this value
abbrev pub is_block_key : List ℕ → Data → Bool
is_block_key key d = list_any (λ k. bytes_eq k key) (codes "low" ∷ codes "high" ∷ codes "fixture" ∷ []) || (bytes_eq key (codes "name") && is_some_name (name_of d))

-- whether a key of the machine, which is block 0, or of a block is used
abbrev pub is_used : ℕ → List ℕ → Data → Bool
is_used block key d = if block == 0 then is_machine_key key else is_block_key key d

-- the keys of a table that nothing uses, as those of a block, on no line yet
abbrev pub unused_in : ℕ → Members → List KeyPlace
unused_in block no_members = []
unused_in block (member key d ms) = if is_used block key d then unused_in block ms else record { line = 0; block = block; key = label_of 32 key } ∷ unused_in
    block ms

-- those of a table that may be none
abbrev pub unused_in_row : ℕ → Option Members → List KeyPlace
unused_in_row block None = []
unused_in_row block (Some ms) = unused_in block ms

-- those of rows, which are blocks, this number being the first one's
abbrev pub unused_in_rows : ℕ → Items → List KeyPlace
unused_in_rows block no_items = []
unused_in_rows block (item d ds) = unused_in_row block (as_table d) ++ unused_in_rows (block + 1) ds

-- the rows of a table
abbrev pub rows_or_none : Option Items → Items
rows_or_none None = no_items
rows_or_none (Some ds) = ds

abbrev pub rows_of : Members → Items
rows_of t = rows_or_none (option_and_then as_array (get_member (codes "block") t))

-- those of a table: first the machine's, then the blocks'
abbrev pub unused_of_table : Members → List KeyPlace
unused_of_table t = unused_in 0 t ++ unused_in_rows 1 (rows_of t)

-- two keys are the same, or neither is one that can be told
abbrev pub is_same_key : Option (List ℕ) → Option (List ℕ) → Bool
is_same_key None None = true
is_same_key (Some k) (Some l) = bytes_eq k l
is_same_key _ _ = false

-- two places have the same key of the same block
abbrev pub is_same : KeyPlace → KeyPlace → Bool
is_same p q = (p.block == q.block) && is_same_key p.key q.key

-- one of the places has the key of this one
abbrev pub is_among : List KeyPlace → KeyPlace → Bool
is_among ps q = list_any (λ p. is_same p q) ps

-- these places, and then the unused keys that stand at none of them
abbrev pub and_absent : List KeyPlace → List KeyPlace → List KeyPlace
and_absent standing unused = standing ++ filter (λ u. not (is_among standing u)) unused

-- of the places those whose keys are among the unused ones, and then the unused ones that stand at none of these
abbrev pub told : List KeyPlace → List KeyPlace → List KeyPlace
told places unused = and_absent (filter (is_among unused) places) unused

-- what is told of a text with these members
abbrev pub told_of_table : List KeyPlace → Option Members → List KeyPlace
told_of_table places None = []
told_of_table places (Some t) = told places (unused_of_table t)

-- the unused keys of a part file, on each line where one stands, and then those whose line isn't known
unfoldable pub unused_keys : List ℕ → List KeyPlace
unused_keys text = told_of_table (places_of text) (members_of text)

-- the name of a block, which is empty where it has none that can be shown
abbrev pub name_or_none : Option (List ℕ) → List ℕ
name_or_none None = []
name_or_none (Some name) = name

abbrev pub row_name : Option Members → List ℕ
row_name None = []
row_name (Some ms) = name_or_none (option_and_then name_of (get_member (codes "name") ms))

-- those of rows
abbrev pub row_names : Items → List (List ℕ)
row_names no_items = []
row_names (item d ds) = row_name (as_table d) ∷ row_names ds

-- those of a text with these members
abbrev pub names_of_table : Option Members → List (List ℕ)
names_of_table None = []
names_of_table (Some t) = row_names (rows_of t)

-- the names of a part file's blocks
unfoldable pub block_names : List ℕ → List (List ℕ)
block_names text = names_of_table (members_of text)
