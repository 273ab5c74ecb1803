-- Turns of the head, at which the swing is tried about the pivot.
use Rattle.std.specs.Prelude.{Bool, true, false, not, List, [], ◌∷◌, Option, Some, None}
use Rattle.vcm_marks.specs.declared.mark.Going.TheVariants.{Rest}
use Rattle.vcm_way.specs.Gone.{PlacedWay, whole}
use Rattle.vcm_probe_set.specs.Probes.{Probe, is_one_pose}
use Rattle.vcm_turning.specs.Choosing.{probe_on}
use Rattle.vcm_set_clearance.specs.Events.{ChangeAt, Happening, goes, turns}

-- whether the head turns from the first probe to the second: both are there, and don't hang in one pose
abbrev pub turns_between : Option Probe → Option Probe → Bool
turns_between (Some old) (Some new) = not (is_one_pose old.pose new.pose)
turns_between _ _ = false

-- whether it turns at a change
abbrev pub turns_at : List Probe → ChangeAt → Bool
turns_at ps c = turns_between (probe_on ps c.from) (probe_on ps (Some c.to))

-- the way of the swing at a change: from the pivot to itself
abbrev pub standing : ChangeAt → PlacedWay
standing c = record { way = whole Rest c.pivot c.pivot; step = c.step; number = c.number; line = c.line }

-- one way more, where the head turns
abbrev pub with_standing : Bool → PlacedWay → List PlacedWay → List PlacedWay
with_standing true w ws = w ∷ ws
with_standing false w ws = ws

-- the ways of the swing, at each change where the head turns
abbrev pub standings : List Probe → List Happening → List PlacedWay
standings ps [] = []
standings ps (goes w ∷ es) = standings ps es
standings ps (turns c ∷ es) = with_standing (turns_at ps c) (standing c) (standings ps es)
