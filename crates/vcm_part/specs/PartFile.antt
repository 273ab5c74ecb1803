-- What the bytes of a part file give: a workpiece, or the first refusal.
use Rattle.std.specs.Prelude.{◌≡◌, ℕ, suc, ◌+◌, ℤ, List, [], ◌∷◌, Option, Some, None, Result, Ok, Err}
use Rattle.std.specs.Prelude.{pos, Bool, true, false, ◌&&◌, ◌⊎◌, not, nat_lt, int_le, unsigned_abs, codes, is_some, if◌then◌else◌}
use Rattle.std.specs.Option.{option_and_then}
use Rattle.std.specs.Str.{is_utf8}
use Rattle.toml.specs.Data.{Data, Items, no_items, item, Members, get_member, as_integer, as_bool, as_array, as_table}
use Rattle.toml.specs.Parse.{parse_document}
use Rattle.vcm_num.specs.declared.point.Point.{Point}
use Rattle.vcm_num.specs.Point.{point, coordinate, is_below, is_near}
use Rattle.vcm_spec.specs.declared.workpiece.Block3.{Block3}
use Rattle.vcm_spec.specs.declared.workpiece.Bounds.{Bounds}
use Rattle.vcm_spec.specs.Workpiece.{Workpiece, is_some_met, is_within}
use Rattle.vcm_part.specs.declared.fault.PartCode.TheVariants.{NoMemory, NotToml, BadKey, OutOfRange}
use Rattle.vcm_part.specs.declared.fault.PartCode.TheVariants.{LowAboveHigh, TooManyBlocks, HomeNotClear}
use Rattle.vcm_part.specs.declared.fault.PartFault.{PartFault}
use Rattle.vcm_spec.specs.Results.{◌>>=◌}
use Rattle.vcm_part.specs.Faults.{fault}
use Rattle.vcm_num.specs.declared.limits.TheConstants.{MOST_BLOCKS, WIDEST_TIP}

-- the point of three whole numbers
abbrev pub point_of_three : Option ℤ → Option ℤ → Option ℤ → Option Point
point_of_three (Some x) (Some y) (Some z) = Some (point x y z)
point_of_three _ _ _ = None

-- the point of an array of exactly three whole numbers
abbrev pub point_of_items : Items → Option Point
point_of_items (item a (item b (item c no_items))) = point_of_three (as_integer a) (as_integer b) (as_integer c)
point_of_items _ = None

-- the point of a value
abbrev pub point_of : Data → Option Point
point_of d = option_and_then point_of_items (as_array d)

-- the point, if there is one and each coordinate is at most a kilometre from 0, else the refusal
abbrev pub near_point : ℕ → Option Point → Result Point PartFault
near_point number None = Err (fault BadKey number)
near_point number (Some p) = if is_near p then Ok p else Err (fault OutOfRange number)

-- the point at a key of the table, or of the block of that number
unfoldable pub point_at : List ℕ → ℕ → Members → Result Point PartFault
point_at key number t = near_point number (option_and_then point_of (get_member key t))

-- half the width of the tip: from 0 to 50,000
abbrev pub small_length : Option ℤ → Result ℕ PartFault
small_length None = Err (fault BadKey 0)
small_length (Some z) = if int_le (pos 0) z && int_le z (pos WIDEST_TIP) then Ok (unsigned_abs z) else Err (fault OutOfRange 0)

-- it is 0 where the key is absent
abbrev pub tip_of : Option Data → Result ℕ PartFault
tip_of None = Ok 0
tip_of (Some d) = small_length (as_integer d)

-- that of the table
unfoldable pub tip_at : Members → Result ℕ PartFault
tip_at t = tip_of (get_member (codes "tip") t)

-- whether all items are tables
abbrev pub are_tables : Items → Bool
are_tables no_items = true
are_tables (item d ds) = is_some (as_table d) && are_tables ds

-- how many items there are
abbrev pub count : Items → ℕ
count no_items = 0
count (item d ds) = suc (count ds)

-- the items, if this is an array of tables, else the refusal
abbrev pub table_rows : Option Items → Result Items PartFault
table_rows None = Err (fault BadKey 0)
table_rows (Some ds) = if are_tables ds then Ok ds else Err (fault BadKey 0)

-- an array of tables, which may be absent
abbrev pub rows_of : Option Data → Result Items PartFault
rows_of None = Ok no_items
rows_of (Some d) = table_rows (as_array d)

-- a truth value, if it is one, else the refusal
abbrev pub truth_of : ℕ → Option Bool → Result Bool PartFault
truth_of number None = Err (fault BadKey number)
truth_of number (Some b) = Ok b

-- whether a block is one of the fixture: it isn't where the key is absent
abbrev pub fixture_of : ℕ → Option Data → Result Bool PartFault
fixture_of number None = Ok false
fixture_of number (Some d) = truth_of number (as_bool d)

-- that of the block of that number
unfoldable pub fixture_at : ℕ → Members → Result Bool PartFault
fixture_at number t = fixture_of number (get_member (codes "fixture") t)

-- the block of that number
abbrev pub block_in : ℕ → Option Members → Result Block3 PartFault
block_in number None = Err (fault BadKey number)
block_in number (Some t) = do
  low ← point_at (codes "low") number t
  high ← point_at (codes "high") number t
  is_fixed ← fixture_at number t
  if is_below (coordinate low) (coordinate high) then Ok (record { low = low; high = high }) else Err (fault LowAboveHigh number)

-- the block of a value
unfoldable pub block_of : ℕ → Data → Result Block3 PartFault
block_of number d = block_in number (as_table d)

-- the blocks of the items, this number being the first one's
unfoldable pub blocks_from : ℕ → Items → Result (List Block3) PartFault
blocks_from number no_items = Ok []
blocks_from number (item d ds) = do
  first ← block_of number d
  others ← blocks_from (number + 1) ds
  Ok (first ∷ others)

-- the blocks of the table, counted from 1
unfoldable pub blocks_at : Members → Result (List Block3) PartFault
blocks_at t = do
  rows ← rows_of (get_member (codes "block") t)
  if nat_lt MOST_BLOCKS (count rows) then Err (fault TooManyBlocks 0) else blocks_from 1 rows

-- whether home lies within the limits, and the tip meets no block there
abbrev pub is_clear : Bounds → List Block3 → Bool
is_clear bounds blocks = is_within bounds (coordinate bounds.home) && not (is_some_met bounds.tip blocks (coordinate bounds.home))

-- the workpiece of these, if home is clear
abbrev pub assembled : Bounds → List Block3 → Result Workpiece PartFault
assembled bounds blocks = if is_clear bounds blocks then Ok (record { bounds = bounds; blocks = blocks }) else Err (fault HomeNotClear 0)

-- these limits, this home and this tip
abbrev pub bounds_of : Point → Point → Point → ℕ → Bounds
bounds_of low high home tip = record { low = low; high = high; home = home; tip = tip }

-- the workpiece of the table
unfoldable pub part_of_table : Members → Result Workpiece PartFault
part_of_table t = do
  low ← point_at (codes "low") 0 t
  high ← point_at (codes "high") 0 t
  home ← point_at (codes "home") 0 t
  tip ← tip_at t
  if is_below (coordinate low) (coordinate high) then blocks_at t >>= assembled (bounds_of low high home tip) else Err (fault LowAboveHigh 0)

-- the workpiece of the table that a text denotes, if it denotes one
abbrev pub part_of_document : Option Members → Result Workpiece PartFault
part_of_document None = Err (fault NotToml 0)
part_of_document (Some t) = part_of_table t

-- the workpiece of the bytes, which are to be the UTF-8 of a TOML text
unfoldable pub part_of : List ℕ → Result Workpiece PartFault
part_of bytes = if is_utf8 bytes then part_of_document (parse_document bytes) else Err (fault NotToml 0)

-- what reading these bytes may answer: the workpiece or the refusal that they give, or that a growth of memory was refused
abbrev pub IsPartRead : List ℕ → Result Workpiece PartFault → Type 0
IsPartRead bytes (Ok part) = part_of bytes ≡ Ok part
IsPartRead bytes (Err e) = (e ≡ fault NoMemory 0) ⊎ (part_of bytes ≡ Err e)
