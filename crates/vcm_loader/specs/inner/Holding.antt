-- Statements whose checks hold.
use Rattle.vcm_code.specs.Code.{CodeStatement}
use Rattle.vcm_code.specs.Checks.{Counts, AllHold, op_checks}

-- those of a statement do
abbrev pub LineHolds : Counts → CodeStatement → Type 0
LineHolds t s = AllHold (op_checks t s.op)
