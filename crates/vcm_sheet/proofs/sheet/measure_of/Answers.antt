use Rattle.std.proofs.Common.{refl}
use Rattle.vcm_sheet.proofs.Mute.{known}
use Rattle.vcm_sheet.proofs.sheet.measure_of.Goals as goal

pub returns-in-Some : goal.returns-in-Some
returns-in-Some c = known (λ rest. refl)

pub returns-in-None : goal.returns-in-None
returns-in-None c = known (λ rest. refl)
