-- What the tables of a sheet say, row by row.
use Rattle.std.specs.Prelude.{ℕ, zero, suc, ◌+◌, ◌-◌, ◌%◌, nat_eq, nat_lt, Bool, ◌&&◌, ◌||◌, if◌then◌else◌, List, [], ◌∷◌, ◌++◌, length, take, drop, flat_map, Option, decimal, codes}
use Rattle.std.specs.List.{take_while}
use Rattle.std.specs.Str.{bytes_eq}
use Rattle.std.specs.Fmt.{signed_decimal}
use Rattle.vcm_report.specs.Printed.{name_at}
use Rattle.vcm_svg.specs.Pieces.{point_text}
use Rattle.vcm_sheet.specs.declared.legend.Used.{Used}
use Rattle.vcm_sheet.specs.declared.paper.Room.{Room}
use Rattle.vcm_sheet.specs.declared.points.Pointed.{Pointed}
use Rattle.vcm_sheet.specs.declared.readings.Reading.{Reading}
use Rattle.vcm_sheet.specs.Readings.{reading_of, place_words, deviation_words}
use Rattle.vcm_sheet.specs.Sayings.{Saying, say}
use Rattle.vcm_sheet.specs.Written.{name_of, written}

-- a row of the legend, if its mark is drawn
abbrev pub sign_row : Bool → List ℕ → List Saying
sign_row is_drawn words = if is_drawn then say (words ∷ []) ∷ [] else []

-- the rows of pieces of the way
abbrev pub way_signs : Used → List Saying
way_signs u =
    sign_row u.moves (codes "move") ++ (sign_row u.approach (codes "approach") ++ (sign_row u.search (codes "search") ++ (sign_row u.retract (codes "retract")
    ++ (sign_row u.rest (codes "not reached") ++ sign_row u.elsewhere (codes "begins elsewhere")))))

-- the rows of the other marks
abbrev pub mark_signs : Used → List Saying
mark_signs u =
    sign_row u.touched (codes "point touched, with its number") ++ (sign_row u.end (codes "end") ++ (sign_row u.home (codes "home")
    ++ (sign_row u.contact (codes "contact") ++ (sign_row u.limits (codes "limits") ++ sign_row u.hidden (codes "hidden block")))))

-- the legend: the rows whose marks are drawn, and whether a line through the origin is
abbrev pub legend : Used → Bool → List Saying
legend u has_origin = way_signs u ++ (mark_signs u ++ sign_row has_origin (codes "X, Y or Z is 0"))

-- how many more than so many there are, if there are any
abbrev pub more_rows : (most count : ℕ) → List ℕ → List Saying
more_rows most count words = if nat_eq (count - most) 0 then [] else say (codes "and " ∷ decimal (count - most) ∷ words ∷ []) ∷ []

-- the row of a point of which this was measured: its number, its source line, its feature, its place on the machine and in the part, and its deviation
abbrev pub measured_row : List (List ℕ) → Pointed → Option Reading → List Saying
measured_row features p reading =
    say (signed_decimal p.number ∷ []) ∷ say (decimal p.step.line ∷ []) ∷ say (name_at features p.touched.feature ∷ [])
    ∷ say (point_text p.touched.at ∷ []) ∷ say (place_words reading ∷ []) ∷ say (deviation_words reading ∷ []) ∷ []

-- the row of a point, with what its step measured
abbrev pub point_row : List (List ℕ) → List Reading → Pointed → List Saying
point_row features readings p = measured_row features p (reading_of readings p.step.step)

-- the head of a column of points
abbrev pub points_head : List Saying
points_head =
    say (codes "point" ∷ []) ∷ say (codes "line" ∷ []) ∷ say (codes "feature" ∷ []) ∷ say (codes "touched at, mm" ∷ []) ∷ say (codes "in the part, mm" ∷ [])
    ∷ say (codes "deviation, mm" ∷ []) ∷ []

-- this head, if a point is the first one of its column
abbrev pub head_if : Bool → List Saying
head_if is_first = if is_first then points_head else []

-- of the point with this index the head of its column of so many rows, if it is the first one there
abbrev pub head_at : (rows index : ℕ) → List Saying
head_at rows index = head_if (nat_eq (index % rows) 0)

-- the heads of the columns of so many points
abbrev pub heads_before : (rows points : ℕ) → List Saying
heads_before rows zero = []
heads_before rows (suc n) = heads_before rows n ++ head_at rows n

-- the table of points: those that have room, in as many columns as they need, the heads first; and how many more there are
abbrev pub points_table : List (List ℕ) → List Reading → Room → List Pointed → List Saying
points_table features readings room points =
    let shown = take room.points points in
    heads_before room.rows (length shown) ++ (flat_map (point_row features readings) shown ++ more_rows room.points (length points) (codes " more points"))

-- a block has the name of the block before it
abbrev pub goes_on : List (List ℕ) → ℕ → Bool
goes_on names block = nat_lt 1 block && bytes_eq (name_of names (block - 1)) (name_of names block)

-- the number of a block, if a name begins with it: it has one, and the block before it has another one or none
abbrev pub number_if : List (List ℕ) → ℕ → List ℕ
number_if names block = if nat_eq (length (name_of names block)) 0 || goes_on names block then [] else block ∷ []

-- of the first so many blocks the numbers of those with which a name begins
abbrev pub named_before : List (List ℕ) → ℕ → List ℕ
named_before names zero = []
named_before names (suc n) = named_before names n ++ number_if names (suc n)

-- the last one of the blocks from this one on that have its name, one after another
abbrev pub last_named : List (List ℕ) → ℕ → ℕ
last_named names block = block + length (take_while (bytes_eq (name_of names block)) (drop block names))

-- the number of a block, or those of the first and the last of several
abbrev pub numbers : ℕ → ℕ → List (List ℕ)
numbers first last = if nat_eq first last then decimal first ∷ [] else decimal first ∷ codes "-" ∷ decimal last ∷ []

-- the row of a name that begins with this block: the numbers of its blocks and the name
abbrev pub block_row : List (List ℕ) → ℕ → List Saying
block_row names block = say (numbers block (last_named names block)) ∷ say (written (name_of names block) ∷ []) ∷ []

-- the head of the table of blocks
abbrev pub blocks_head : List Saying
blocks_head = say (codes "block" ∷ []) ∷ say (codes "name" ∷ []) ∷ []

-- the table of the names that begin with these blocks, so many at most, if there are any
abbrev pub table_of : (most : ℕ) → List (List ℕ) → List ℕ → List Saying
table_of most names blocks =
    if nat_eq (length blocks) 0 then [] else
    blocks_head ++ (flat_map (block_row names) (take most blocks) ++ more_rows most (length blocks) (codes " more names"))

-- the table of the names of blocks, so many at most
abbrev pub blocks_table : (most : ℕ) → List (List ℕ) → List Saying
blocks_table most names = table_of most names (named_before names (length names))
