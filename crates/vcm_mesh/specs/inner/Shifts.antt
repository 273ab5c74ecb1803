-- Shifts of the code, as the definitions see them.
use Rattle.vcm_mesh.specs.Lengths.{Shift}
use Rattle.vcm_mesh.specs.declared.number.Shift.{Shift as OwnShift}

-- the same shift
abbrev pub shift_view : OwnShift → Shift
shift_view s = record { up = s.up; down = s.down }
