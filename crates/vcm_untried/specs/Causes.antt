-- Why a motion isn't tried, and since which line.
use Rattle.std.specs.Prelude.{ℕ, ℤ, pos, Bool, false, not, ◌&&◌, ◌||◌, nat_eq, nat_lt, if◌then◌else◌, List, slice_get, slice_set, replicate, unwrap_or, Option, Some, None}
use Rattle.std.specs.Ordering.{int_eq}
use Rattle.vcm_remarks.specs.declared.remark.Cause.{Cause}
use Rattle.vcm_remarks.specs.declared.remark.Cause.TheVariants.{Table, Mode, Scanning, Unit as UnitLost, Frame, Setting, Value, All}
use Rattle.vcm_untried.specs.About.{place_of}

-- a value is there, and 0
abbrev pub is_zero : Option ℤ → Bool
is_zero None = false
is_zero (Some z) = int_eq z (pos 0)

-- the variable at a place is 0
abbrev pub is_nought : List ℤ → ℕ → Bool
is_nought variables v = is_zero (slice_get variables v)

-- the number of the epoch (11), 1 where no variable carries it
abbrev pub epoch_in : List ℤ → ℤ
epoch_in vs = unwrap_or (slice_get vs 11) (pos 1)

-- a value is there, and another one than this
abbrev pub differs : Option ℤ → ℤ → Bool
differs None epoch = false
differs (Some z) epoch = not (int_eq z epoch)

-- what the variable at a place carries isn't known: it came to be known in another epoch, or never
abbrev pub is_lost : List ℤ → ℕ → Bool
is_lost vs v = differs (slice_get vs v) (epoch_in vs)

-- whether an approach, a search or a way back isn't known (7, 8, 9), there is a clearance surface (13), or points aren't compensated (14)
abbrev pub lacks_setting : List ℤ → Bool
lacks_setting vs = is_lost vs 7 || (is_lost vs 8 || (is_lost vs 9 || (is_lost vs 13 || is_lost vs 14)))

-- why a motion isn't tried where the variables have these values: the first of a table that was turned (3), no programmed mode (2), a unit that isn't followed (5),
-- a frame that isn't known (0), and within a measurement (22) scanning (4), points of the machine's own (12) and settings; else a value that isn't known
abbrev pub cause_in : List ℤ → Cause
cause_in vs =
    if is_lost vs 3 then Table
    else if is_lost vs 2 then Mode
    else if is_lost vs 5 then UnitLost
    else if is_nought vs 0 then Frame
    else if is_nought vs 22 then Value
    else if is_lost vs 4 then Scanning
    else if is_lost vs 12 then Mode
    else if lacks_setting vs then Setting
    else Value

-- the line at which a cause came about last, 0 where there was none; each cause has its line at its place, but that a value isn't known has none, since nothing shows
-- which value it is
abbrev pub line_of : List ℕ → Cause → ℕ
line_of lost cause = unwrap_or (slice_get lost (place_of cause)) 0

-- a cause, or else that anything may have changed, where the cause came about at the line at which all did last
abbrev pub named : List ℕ → Cause → Cause
named lost cause =
    if not (nat_eq (line_of lost cause) 0) && nat_eq (line_of lost cause) (line_of lost All) then All else cause

-- a cause comes about at a line, or all do
abbrev pub lost_at : List ℕ → Cause → ℕ → List ℕ
lost_at lost cause line =
    if nat_lt (place_of cause) 6 then slice_set lost (place_of cause) line
    else if nat_eq (place_of cause) 6 then replicate 7 line
    else lost
