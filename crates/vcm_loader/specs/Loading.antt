-- Which refusal loading tells.
use Rattle.std.specs.Prelude.{◌≡◌, ◌⊎◌, List, [], ◌∷◌, Result, Ok, Err}
use Rattle.vcm_code.specs.declared.code.Code.{Code}
use Rattle.vcm_code.specs.Valid.{Ends}
use Rattle.vcm_fields.specs.declared.fault.ImageFault.{ImageFault}
use Rattle.vcm_fields.specs.declared.fault.ImageFault.TheVariants.{NoMemory, BadIndex, BadTarget, BadOperand, RunsOff}
use Rattle.vcm_code.specs.Checks.{Check, index, target, indexes, typed, of_kind, assigned, Holds, AllHold, checks}

-- what is told of a check that doesn't hold
abbrev pub fault_of : Check → ImageFault
fault_of (index i count) = BadIndex
fault_of (target i count) = BadTarget
fault_of (indexes items count) = BadIndex
fault_of (typed kinds items k) = BadOperand
fault_of (of_kind kinds v k) = BadOperand
fault_of (assigned kinds v items) = BadOperand

-- this is told of the first check of the list that doesn't hold
abbrev pub FirstFailedCheck : List Check → ImageFault → Type 0
FirstFailedCheck [] e = ⊥
FirstFailedCheck (c ∷ cs) e = (Holds c × FirstFailedCheck cs e) ⊎ ((¬ Holds c) × (e ≡ fault_of c))

-- the refusal of a code: its first check that doesn't hold; where all do, that it doesn't end with ENDFIL
abbrev pub RefusesCode : Code → ImageFault → Type 0
RefusesCode c e = FirstFailedCheck (checks c) e ⊎ (AllHold (checks c) × ((¬ Ends c.statements) × (e ≡ RunsOff)))

-- the refusal of loading: that of reading, else that of the code which is read. Of want of memory nothing is said
abbrev pub LoadFault : Result Code ImageFault → ImageFault → Type 0
LoadFault read NoMemory = Unit {0}
LoadFault (Err f) e = e ≡ f
LoadFault (Ok c) e = RefusesCode c e
