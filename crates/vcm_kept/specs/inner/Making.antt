-- What a text makes anywhere, as the code has it.
use Rattle.vcm_kept.specs.declared.late.Made.{Made as Kept}
use Rattle.vcm_kept.specs.Late.{Made}

-- what the code keeps says this
abbrev pub made_of : Kept → Made
made_of m = record { frames = m.frames.items; features = m.features.items; variables = m.variables.items }
