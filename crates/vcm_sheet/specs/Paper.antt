-- The papers of sheets, what has room there, and the scale at which the views do. Lengths on paper are in quarters of a millimetre.
use Rattle.std.specs.Prelude.{ℕ, Bool, ◌&&◌, ◌+◌, ◌-◌, ◌*◌, ◌/◌, nat_eq, nat_le, nat_lt, max, min, ℤ, pos, ◌+ℤ◌, ◌*ℤ◌, ◌≤ℤ◌, int_lt, if◌then◌else◌, List, [], ◌∷◌, codes, Option, Some, None}
use Rattle.std.specs.Int.{int_div_euclid, int_max}
use Rattle.std.specs.Fmt.{signed_decimal}
use Rattle.vcm_num.specs.Point.{coordinate}
use Rattle.vcm_picture.specs.Sights.{Window}
use Rattle.vcm_picture.specs.Window.{with_unit}
use Rattle.vcm_sheet.specs.declared.paper.Paper.{Paper}
use Rattle.vcm_sheet.specs.declared.paper.Paper.TheVariants.{A4, A3}
use Rattle.vcm_sheet.specs.declared.paper.Room.{Room}

-- how wide a paper is, its longer side across: 297 and 420 mm
abbrev pub wide_of : Paper → ℕ
wide_of A4 = 1188
wide_of A3 = 1680

-- how high it is: 210 and 297 mm
abbrev pub high_of : Paper → ℕ
high_of A4 = 840
high_of A3 = 1188

-- the room in its frame, which is 20 mm from the left edge and 10 mm from the others
abbrev pub inner_wide : Paper → ℕ
inner_wide p = wide_of p - 120

-- above the title block, which is 12 mm high
abbrev pub inner_high : Paper → ℕ
inner_high p = high_of p - 128

-- how many rows a column of points has, below a heading of so many lines and the longest legend
abbrev pub rows_on : Paper → (lines : ℕ) → ℕ
rows_on p lines = max 1 ((inner_high p - (18 * lines + 276)) / 14)

-- how many rows all columns have: one column on A4, two on A3
abbrev pub all_rows_on : Paper → (rows : ℕ) → ℕ
all_rows_on A4 rows = rows
all_rows_on A3 rows = rows + rows

-- how many of so many points are listed: all, or so many that a row is left that tells how many more there are
abbrev pub listed_in : (all points : ℕ) → ℕ
listed_in all points = if nat_le points all then points else all - 1

-- how wide the tables are, of which that of the points has so many
abbrev pub tables_wide : Paper → (rows points : ℕ) → ℕ
tables_wide A4 rows points = if nat_eq points 0 then 350 else 620
tables_wide A3 rows points = if nat_eq points 0 then 350 else (if nat_lt rows points then 1240 else 620)

-- how wide the top and the side view may be together
abbrev pub wide_room : Paper → (tables : ℕ) → ℕ
wide_room p tables = max 1 (inner_wide p - (tables + 170))

-- how high the top and the front view may be together, below a heading of so many lines
abbrev pub high_room : Paper → (lines : ℕ) → ℕ
high_room p lines = max 1 (inner_high p - (18 * lines + 160))

-- the scales of drawings, in tenths of the N of 1:N, but for the last one
abbrev pub scales : List ℤ
scales =
    pos 1 ∷ pos 2 ∷ pos 5 ∷ pos 10 ∷ pos 20 ∷ pos 50 ∷ pos 100 ∷ pos 200 ∷ pos 500 ∷ pos 1000 ∷ pos 2000 ∷ pos 5000 ∷ pos 10000 ∷ pos 20000 ∷ pos 50000
    ∷ pos 100000 ∷ pos 200000 ∷ []

-- the first of some scales above a number, or the last one
abbrev pub first_above : ℤ → List ℤ → ℤ
first_above n [] = pos 500000
first_above n (s ∷ ss) = if int_lt n s then s else first_above n ss

-- the least scale above a number, or the last one
unfoldable pub scale_above : ℤ → ℤ
scale_above n = first_above n scales

-- from 10:1 to 1:50000
pub record IsScale (z : ℤ) : Type 0 where
  pub some : pos 1 ≤ℤ z
  pub most : z ≤ℤ pos 500000

-- how many tenths of the N of 1:N a length in micrometres is of a room, rounded down: a quarter of a millimetre has 25 of them
abbrev pub tenths : ℤ → (room : ℕ) → ℤ
tenths length room = int_div_euclid length (pos (25 * room))

-- the scale at which the views of a window have room left of the tables
abbrev pub scale_beside : Paper → (lines points : ℕ) → Window → ℤ
scale_beside p lines points w =
    let across = tenths (coordinate w.full 0 +ℤ coordinate w.full 1) (wide_room p (tables_wide p (rows_on p lines) points)) in
    let down = tenths (coordinate w.full 1 +ℤ coordinate w.full 2) (high_room p lines) in
    scale_above (int_max across down)

-- the scale at which they have room above the tables, which are 52.5 mm high there
abbrev pub scale_over : Paper → (lines : ℕ) → Window → ℤ
scale_over p lines w =
    let across = tenths (coordinate w.full 0 +ℤ coordinate w.full 1) (wide_room p 0) in
    let down = tenths (coordinate w.full 1 +ℤ coordinate w.full 2) (max 1 (high_room p lines - 210)) in
    scale_above (int_max across down)

-- whether the tables are below the views, and not right of them: they have at most 12 points, and the views are larger so
abbrev pub are_below : Paper → (lines points : ℕ) → Window → Bool
are_below p lines points w = nat_le points 12 && int_lt (scale_over p lines w) (scale_beside p lines points w)

-- the scale of a sheet
abbrev pub scale_on : Paper → (lines points : ℕ) → Window → ℤ
scale_on p lines points w = if are_below p lines points w then scale_over p lines w else scale_beside p lines points w

-- what has room right of the views
abbrev pub room_beside : Paper → (lines points : ℕ) → Room
room_beside p lines points =
    let rows = rows_on p lines in
    record { rows = rows; points = listed_in (all_rows_on p rows) points; names = rows - min rows points - 3 }

-- what has room below them
abbrev pub room_below : (points : ℕ) → Room
room_below points = record { rows = 12; points = points; names = 12 - points - 3 }

-- what has room below a heading of so many lines, of so many points: on no paper all points, in columns of 40, and 40 names
abbrev pub room_of : Option Paper → (lines points : ℕ) → Window → Room
room_of None lines points w = record { rows = 40; points = points; names = 40 }
room_of (Some p) lines points w = if are_below p lines points w then room_below points else room_beside p lines points

-- a quarter of a millimetre of paper in units of a picture, at a scale
abbrev pub unit_at : (scale grain : ℤ) → ℤ
unit_at scale grain = int_max (int_div_euclid (pos 25 *ℤ scale) grain) (pos 1)

-- the window of a sheet on a paper: texts have the size that they have on paper
abbrev pub window_on : Option Paper → (lines points : ℕ) → Window → Window
window_on None lines points w = w
window_on (Some p) lines points w = with_unit w (unit_at (scale_on p lines points w) w.grain)

-- how a scale is written: 10:1, 5:1, 2:1, or 1:N
abbrev pub scale_words : ℤ → List (List ℕ)
scale_words scale =
    if int_lt scale (pos 10) then signed_decimal (int_div_euclid (pos 10) scale) ∷ codes ":1" ∷ []
    else codes "1:" ∷ signed_decimal (int_div_euclid scale (pos 10)) ∷ []
