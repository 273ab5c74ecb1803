-- How a measurement ends.
use Rattle.std.specs.Prelude.{ℕ, IsTrue, Option, Some, None, List, [], ◌∷◌}
use Rattle.vcm_num.specs.declared.point.Point.{Point}
use Rattle.vcm_num.specs.Point.{is_near}
use Rattle.vcm_spec.specs.declared.stop.Stop.{Stop}
use Rattle.vcm_spec.specs.declared.stop.Stop.TheVariants.{Travel, Collision}
use Rattle.vcm_spec.specs.declared.words.MovePhase.TheVariants.{Retract}
use Rattle.vcm_spec.specs.Workpiece.{Workpiece}
use Rattle.vcm_motion.specs.declared.face.Face.{Face}
use Rattle.vcm_marks.specs.declared.mark.Going.TheVariants as going
use Rattle.vcm_marks.specs.declared.mark.Mark.{Mark}
use Rattle.vcm_way.specs.Marks.{goes, falls_short, meets_block}

-- a measurement with this stop, or with none, has touched
abbrev pub HasTouched : Option Stop → Type 0
HasTouched None = Unit {0}
HasTouched (Some (Travel Retract)) = Unit {0}
HasTouched (Some (Collision Retract hit)) = Unit {0}
HasTouched (Some _) = ⊥

-- what comes behind the touch
abbrev pub behind : Workpiece → Point → Point → Option Stop → List Mark
behind part touch retract None = goes going.Retract touch retract ∷ []
behind part touch retract (Some (Travel Retract)) = falls_short part.bounds touch retract ∷ []
behind part touch retract (Some (Collision Retract hit)) = meets_block part going.Retract touch retract hit.block
behind part touch retract (Some _) = []

-- where the way back meets a block, its end is near
abbrev pub IsNearAtHit : Point → Option Stop → Type 0
IsNearAtHit retract (Some (Collision Retract hit)) = IsTrue (is_near retract)
IsNearAtHit retract _ = Unit {0}

-- the distance of a face; 0, where there is none
abbrev pub distance_of : Option Face → ℕ
distance_of None = 0
distance_of (Some face) = face.distance
