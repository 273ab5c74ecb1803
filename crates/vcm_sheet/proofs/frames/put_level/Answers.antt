use Rattle.std.proofs.Common.{refl}
use Rattle.std.specs.Prelude.{codes}
use Rattle.vcm_sheet.proofs.Mute.{known}
use Rattle.vcm_sheet.proofs.Saying.{last_line}
use Rattle.vcm_sheet.proofs.frames.put_level.Goals as goal

pub returns : goal.returns
returns c = last_line c.put_line.result (codes "z") _ _ _ _ (known (λ rest. refl)) c.put_line.ensures
