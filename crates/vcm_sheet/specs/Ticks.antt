-- The ticks at the frames of views, and what they say.
use Rattle.std.specs.Prelude.{ℕ, zero, suc, ℤ, pos, ◌+ℤ◌, ◌-ℤ◌, ◌*ℤ◌, ◌≤ℤ◌, Bool, ◌&&◌, ◌||◌, int_le, nat_eq, List, [], ◌∷◌, ◌++◌, if◌then◌else◌, flat_map}
use Rattle.std.specs.Fmt.{signed_decimal}
use Rattle.std.specs.Int.{int_max, int_div_euclid, int_rem_euclid, saturate_to_bits}
use Rattle.std.specs.List.{list_any}
use Rattle.std.specs.Ordering.{int_eq}
use Rattle.vcm_num.specs.Point.{coordinate}
use Rattle.vcm_num.specs.Texts.{thousandths}
use Rattle.vcm_picture.specs.Sights.{Window}
use Rattle.vcm_sheet.specs.declared.ticks.Ruler.{Ruler}
use Rattle.vcm_sheet.specs.declared.ticks.TheConstants.{STEPS}
use Rattle.vcm_sheet.specs.Sayings.{Saying, say}

-- a distance of ticks
pub record IsStep (z : ℤ) : Type 0 where
  pub from_below : pos 1 ≤ℤ z

-- a number, or the nearest one that 64 bits hold
abbrev pub kept : ℤ → ℤ
kept z = saturate_to_bits 63 z

-- the first of some distances that is at least so great, or else 5 m
abbrev pub first_from : ℤ → List ℤ → ℤ
first_from least [] = pos 5000000000
first_from least (s ∷ ss) = if int_le least s then s else first_from least ss

-- the distance of ticks that are at least so far apart
unfoldable pub tick_step : ℤ → ℤ
tick_step least = int_max (first_from least STEPS) (pos 1)

-- whether a number is a multiple of the step, and lies from the low to the high number
abbrev pub is_tick : Ruler → ℤ → Bool
is_tick r z = int_le r.low z && (int_le z r.high && int_eq (int_rem_euclid z r.step) (pos 0))

-- a tick at a number, if one stands there
abbrev pub tick_at : Ruler → ℤ → List ℤ
tick_at r z = if is_tick r z then z ∷ [] else []

-- the multiple of the step that is at the low number or the next one below it
abbrev pub first_multiple : Ruler → ℤ
first_multiple r = kept (r.low -ℤ int_rem_euclid r.low r.step)

-- the multiple that is so many steps further
abbrev pub multiple_after : Ruler → ℕ → ℤ
multiple_after r n = kept (first_multiple r +ℤ kept (r.step *ℤ pos n))

-- the ticks at the first so many multiples
abbrev pub ticks_before : Ruler → ℕ → List ℤ
ticks_before r zero = []
ticks_before r (suc n) = ticks_before r n ++ tick_at r (multiple_after r n)

-- the ticks of a ruler
unfoldable pub ticks_of : Ruler → List ℤ
ticks_of r = ticks_before r 64

-- the ruler of an axis of a window: its ticks are 60 units apart at least
abbrev pub ruler_of : Window → ℕ → Ruler
ruler_of w k = record {
  low = coordinate w.low k;
  high = kept (coordinate w.low k +ℤ coordinate w.full k);
  step = tick_step (kept (kept (pos 60 *ℤ w.unit) *ℤ w.grain));
}

-- the ticks of the three axes
pub record Ticking : Type 0 where
  pub x : List ℤ
  pub y : List ℤ
  pub z : List ℤ

-- the ticks of a window
abbrev pub ticks_in : Window → Ticking
ticks_in w = record { x = ticks_of (ruler_of w 0); y = ticks_of (ruler_of w 1); z = ticks_of (ruler_of w 2) }

-- the ticks of an axis: 0 is X, 1 is Y
abbrev pub axis_of : Ticking → ℕ → List ℤ
axis_of t k = if nat_eq k 0 then t.x else (if nat_eq k 1 then t.y else t.z)

-- whether the origin is among ticks
abbrev pub has_zero : List ℤ → Bool
has_zero ticks = list_any (λ z. int_eq z (pos 0)) ticks

-- whether a view has a line through the origin
abbrev pub has_origin : Ticking → Bool
has_origin t = has_zero t.x || (has_zero t.y || has_zero t.z)

-- a length at a tick: whole millimetres without decimals
abbrev pub tick_words : ℤ → List ℕ
tick_words z = if int_eq (int_rem_euclid z (pos 1000)) (pos 0) then signed_decimal (int_div_euclid z (pos 1000)) else thousandths z

-- what a tick says
abbrev pub tick_said : ℤ → List Saying
tick_said z = say (tick_words z ∷ []) ∷ []

-- what ticks say
abbrev pub ticks_said : List ℤ → List Saying
ticks_said ticks = flat_map tick_said ticks
