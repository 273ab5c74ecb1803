-- The probe at rest.
use Rattle.std.specs.Prelude.{◌≡◌, ◌<◌, ℤ, not, IsTrue}
use Rattle.vcm_num.specs.Point.{coordinate}
use Rattle.vcm_spec.specs.Setup.{Setup}
use Rattle.vcm_spec.specs.Workpiece.{Workpiece, IsValid, is_blocked, is_within}
use Rattle.vcm_spec.specs.World.{World, opening_world}
use Rattle.vcm_spec.specs.Outcome.{Gives}
use Rattle.vcm_spec.specs.Simple.{Simple}
use Rattle.vcm_spec.specs.Effect.{carried_out}

-- the centre of the tip is within the limits, the tip meets no block, and the retract length is above zero
pub record Rests (part : Workpiece) (w : World) : Type 0 where
  pub within : IsTrue (is_within part.bounds (coordinate w.position))
  pub clear : IsTrue (not (is_blocked part (coordinate w.position)))
  pub back : 0 < w.settings.retract

-- it is so at the start
abbrev pub OpensAtRest : Type 0
OpensAtRest = (setup : Setup) → IsValid setup.part → Rests setup.part (opening_world setup)

-- each simple statement that doesn't stop leaves it so
abbrev pub StaysAtRest : Type 0
StaysAtRest =
    (setup : Setup) → IsValid setup.part → (w after : World) (s : Simple ℤ) → Rests setup.part w → carried_out setup w s ≡ Gives after → Rests setup.part after
