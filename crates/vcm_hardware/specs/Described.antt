-- What hangs on a head, and the probes of it.
use Rattle.std.specs.Prelude.{ℕ, ℤ, List, Option}
use Rattle.vcm_hardware.specs.declared.description.StillBox.{StillBox}
use Rattle.vcm_hardware.specs.declared.description.Cylinder.{Cylinder}
use Rattle.vcm_hardware.specs.declared.description.Ball.{Ball}
use Rattle.vcm_hardware.specs.declared.description.Choice.{Choice}

-- by how much B is mounted otherwise, the boxes that stand still, the parts and the balls that turn
pub record Hanging : Type 0 where
  pub turn : ℤ
  pub heads : List StillBox
  pub parts : List Cylinder
  pub balls : List Ball

-- a description: the name of the variable, what hangs on the head, and the probes that are chosen of it
pub record Described : Type 0 where
  pub variable : Option (List ℕ)
  pub hanging : Hanging
  pub choices : List Choice
