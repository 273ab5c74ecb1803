-- What is proved of workpieces off their place.
use Rattle.std.specs.Prelude.{◌≡◌, ◌≢◌, Bool, List, Result, Err}
use Rattle.vcm_num.specs.declared.point.Point.{Point}
use Rattle.vcm_spec.specs.Workpiece.{Workpiece}
use Rattle.vcm_part.specs.declared.fault.PartCode.TheVariants.{NoMemory}
use Rattle.vcm_part.specs.declared.fault.PartFault.{PartFault}
use Rattle.vcm_part.specs.Faults.{fault}
use Rattle.vcm_place.specs.Placed.{IsPlaced}

-- two answers are one, unless a growth of memory was refused
abbrev pub OneAnswer : Type 0
OneAnswer = (place : Point) (fixtures : List Bool) (part : Workpiece) (r s : Result Workpiece PartFault) → IsPlaced place fixtures part r → IsPlaced place fixtures part s
    → r ≢ Err (fault NoMemory 0) → s ≢ Err (fault NoMemory 0) → r ≡ s
