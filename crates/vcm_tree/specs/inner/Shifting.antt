-- The shifts of a frame, as they are read.
use Rattle.vcm_tree.specs.declared.measuring.Along.{Along}
use Rattle.vcm_tree.specs.Features.{Shifts}

-- the three shifts
abbrev pub shifts : Along → Shifts
shifts a = record { x = a.x; y = a.y; z = a.z }
