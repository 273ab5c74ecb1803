-- What is sure, as the code has it.
use Rattle.vcm_certain.specs.Certain.{Sure}
use Rattle.vcm_certain.specs.declared.certain.Known.{Known}

-- what the code keeps says this
abbrev pub known : Known → Sure
known k = record { given = k.given.items; blocks = k.blocks; straight = k.straight }
