use Rattle.std.proofs.Common.{rules}
use Rattle.vcm_syntax.proofs.forms.assign.Goals as goal

pub returns : goal.returns
returns c = search rules
