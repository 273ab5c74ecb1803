use Rattle.std.proofs.Common.{rules}
use Rattle.vcm_probe.proofs.settings.Settings.descent.Goals as goal

pub returns : goal.returns
returns c = search rules
