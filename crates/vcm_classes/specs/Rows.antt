-- Which classes go with which changes.
use Rattle.std.specs.Prelude.{◌≡◌, Bool, true, false, Option, None}
use Rattle.vcm_lines.specs.declared.fault.SourceFault.{SourceFault}
use Rattle.vcm_adapt.specs.declared.edit.Edit.{Edit}
use Rattle.vcm_adapt.specs.declared.edit.Edit.TheVariants.{Keep, LeaveOut, Put}
use Rattle.vcm_sentences.specs.Judged.{IsTaken}
use Rattle.vcm_classes.specs.declared.class.Class.{Class}
use Rattle.vcm_classes.specs.declared.class.Class.TheVariants as classes

-- a class goes with a fault or none, and with what becomes of the lines: what fits or has a notice has none and is kept, what has one is kept, and
-- all else becomes a comment or is put otherwise
abbrev pub agrees : Class → Bool → Edit → Bool
agrees classes.Fits false Keep = true
agrees classes.Notice false Keep = true
agrees classes.Fault true Keep = true
agrees classes.LeftOut false LeaveOut = true
agrees classes.NotTried false LeaveOut = true
agrees classes.PutOtherwise false LeaveOut = true
agrees classes.PutOtherwise false (Put new) = true
agrees _ _ _ = false

-- a statement that is put for another one is taken by the readers
abbrev pub PutsTaken : Edit → Type 0
PutsTaken (Put new) = IsTaken new
PutsTaken _ = Unit {0}

-- what fits or has a notice is taken by the readers
abbrev pub IsTried : Class → Option SourceFault → Type 0
IsTried classes.Fits fault = fault ≡ None
IsTried classes.Notice fault = fault ≡ None
IsTried _ fault = Unit {0}

-- two classes are the same
abbrev pub same_class : Class → Class → Bool
same_class classes.Fits classes.Fits = true
same_class classes.Notice classes.Notice = true
same_class classes.LeftOut classes.LeftOut = true
same_class classes.PutOtherwise classes.PutOtherwise = true
same_class classes.NotTried classes.NotTried = true
same_class classes.Fault classes.Fault = true
same_class _ _ = false
