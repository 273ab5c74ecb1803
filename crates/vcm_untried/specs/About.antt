-- What is reported of a line.
use Rattle.std.specs.Prelude.{ℕ, Bool, nat_eq, ◌&&◌}
use Rattle.vcm_remarks.specs.declared.remark.Cause.{Cause}
use Rattle.vcm_remarks.specs.declared.remark.Cause.TheVariants.{Table, Mode, Scanning, Unit as UnitLost, Frame, Setting, Value, All}
use Rattle.vcm_untried.specs.declared.about.About.{About}
use Rattle.vcm_untried.specs.declared.about.About.TheVariants.{NotTried, Approached, BeginsElsewhere, NotReported, AnotherTip, NotInFile}

-- the place of a cause
abbrev pub place_of : Cause → ℕ
place_of Table = 0
place_of Mode = 1
place_of Scanning = 2
place_of UnitLost = 3
place_of Frame = 4
place_of Setting = 5
place_of All = 6
place_of Value = 7

-- the place of what is reported
abbrev pub rank : About → ℕ
rank (NotTried cause since) = place_of cause
rank Approached = 8
rank BeginsElsewhere = 9
rank NotReported = 10
rank AnotherTip = 11
rank NotInFile = 12

-- since which line it is so
abbrev pub since_of : About → ℕ
since_of (NotTried cause since) = since
since_of Approached = 0
since_of BeginsElsewhere = 0
since_of NotReported = 0
since_of AnotherTip = 0
since_of NotInFile = 0

-- the same is reported
abbrev pub same : About → About → Bool
same a b = nat_eq (rank a) (rank b) && nat_eq (since_of a) (since_of b)
