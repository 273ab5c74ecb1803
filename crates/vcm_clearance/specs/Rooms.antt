-- How much room is left round a body in a run.
use Rattle.std.specs.Prelude.{◌≡◌, ℕ, ◌+◌, ◌<◌, min, Bool, true, false, List, [], ◌∷◌, length, map, filter, slice_get, Option, Some, None}
use Rattle.std.specs.List.{AllByRecursion}
use Rattle.vcm_spec.specs.declared.workpiece.Block3.{Block3}
use Rattle.vcm_spec.specs.Workpiece.{grown}
use Rattle.vcm_boxes.specs.declared.boxes.ProbeBox.{ProbeBox}
use Rattle.vcm_way.specs.Gone.{PlacedWay}
use Rattle.vcm_clearance.specs.declared.told.Told.{Told}
use Rattle.vcm_clearance.specs.declared.room.Room.{Room}
use Rattle.vcm_clearance.specs.declared.room.Room.TheVariants.{Met, Clear}
use Rattle.vcm_clearance.specs.Contacts.{IsClearOn, is_met_on, told_on}
use Rattle.vcm_num.specs.declared.limits.TheConstants.{MOST_ROOM}

-- with the sides of its boxes moved out by g, the body meets no block on any of these ways
abbrev pub IsClearBy : List Block3 → List Block3 → List PlacedWay → ℕ → Type 0
IsClearBy blocks body ways g = AllByRecursion (λ p. IsClearOn blocks (map (grown g) body) p.way) ways

-- on how many of these ways the body meets a block
abbrev pub met_ways : List Block3 → List Block3 → List PlacedWay → ℕ
met_ways blocks body ways = length (filter (λ p. is_met_on blocks body p.way) ways)

-- the first, if there is one, else the second
abbrev pub or_else : Option Told → Option Told → Option Told
or_else (Some told) later = Some told
or_else None later = later

-- the first contact of the body on the first of these ways on which it meets a block
abbrev pub first_told : List Block3 → List Block3 → List PlacedWay → Option Told
first_told blocks body [] = None
first_told blocks body (p ∷ ps) = or_else (told_on blocks true body p) (first_told blocks body ps)

-- the greatest count of 64 bits
unfoldable pub most : ℕ
most = 18446744073709551615

-- a count as it is kept: no more than 64 bits count
abbrev pub counted : ℕ → ℕ
counted n = min n most

-- the room round a body: on how many ways it meets a block; or by how many micrometres all sides of its boxes may be moved out, up to 50,000, so that
-- it meets none, with the first contact of the body with these sides moved out by one more
abbrev pub IsRoom : List Block3 → List Block3 → List PlacedWay → Room → Type 0
IsRoom blocks body ways (Met k) = (k ≡ counted (met_ways blocks body ways)) × (0 < met_ways blocks body ways)
IsRoom blocks body ways (Clear g None) = (g ≡ MOST_ROOM) × IsClearBy blocks body ways g
IsRoom blocks body ways (Clear g (Some told)) = (g < MOST_ROOM) × IsClearBy blocks body ways g × (first_told blocks (map (grown (g + 1)) body) ways ≡ Some told)

-- each box of a probe file has its room, as a body of its own
pub record AreRooms (blocks : List Block3) (boxes : List ProbeBox) (ways : List PlacedWay) (rooms : List Room) : Type 0 where
  pub count : length rooms ≡ length boxes
  pub each : (i : ℕ) (b : ProbeBox) (r : Room) → slice_get boxes i ≡ Some b → slice_get rooms i ≡ Some r → IsRoom blocks (b.block ∷ []) ways r

-- whether a body is met
abbrev pub is_met_room : Room → Bool
is_met_room (Met k) = true
is_met_room (Clear g told) = false
