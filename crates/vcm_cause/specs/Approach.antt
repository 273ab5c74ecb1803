-- How far out an approach point may lie, for the way to it to be free of a block.
use Rattle.std.specs.Prelude.{ℕ, ◌+◌, ◌-◌, nat_lt, Bool, ◌&&◌, is_none, if◌then◌else◌, List, [], ◌∷◌, Option, Some, None}
use Rattle.vcm_num.specs.declared.point.Point.{Point}
use Rattle.vcm_num.specs.Axis.{along, opposite}
use Rattle.vcm_num.specs.Point.{coordinate, is_near}
use Rattle.vcm_spec.specs.declared.workpiece.Block3.{Block3}
use Rattle.vcm_spec.specs.FirstContact.{entry}
use Rattle.vcm_spec.specs.Outcome.{point_of}
use Rattle.vcm_spec.specs.Workpiece.{grown}
use Rattle.vcm_cause.specs.declared.approach.ApproachWay.{ApproachWay}
use Rattle.vcm_cause.specs.declared.approach.TheConstants.{STEPS}

-- whether the tip meets the block nowhere on the way from a to b, which are near 0
abbrev pub is_free_way : ℕ → Block3 → (a b : Point) → Bool
is_free_way tip block a b = is_near a && (is_near b && is_none (entry (coordinate a) (coordinate b) (grown tip block)))

-- the approach point at another distance
abbrev pub aim_with : ApproachWay → ℕ → Point
aim_with w n = point_of (along (coordinate w.aim) (opposite w.toward) (w.distance - n))

-- whether the way to it is free of the block
abbrev pub is_free_with : ℕ → Block3 → ApproachWay → ℕ → Bool
is_free_with tip block w n = is_near w.aim && is_free_way tip block w.from (aim_with w n)

-- a distance, or a greater one by a step, if that is below the one that is set and the way is free with it
abbrev pub raised : ℕ → Block3 → ApproachWay → (low step : ℕ) → ℕ
raised tip block w low step = if nat_lt (low + step) w.distance && is_free_with tip block w (low + step) then low + step else low

-- from a distance on, by these steps, each of which is tried once
abbrev pub climbed : ℕ → Block3 → ApproachWay → (low : ℕ) → (steps : List ℕ) → ℕ
climbed tip block w low [] = low
climbed tip block w low (s ∷ ss) = climbed tip block w (raised tip block w low s) ss

-- the greatest distance below the one that is set with which the way is free of the block, from 1 on, if it is with 1; the steps halve from 524,288 to 1, and the settings are at
-- most 1,000,000
abbrev pub free_approach : ℕ → Block3 → ApproachWay → Option ℕ
free_approach tip block w = if nat_lt 1 w.distance && is_free_with tip block w 1 then Some (climbed tip block w 1 STEPS) else None
