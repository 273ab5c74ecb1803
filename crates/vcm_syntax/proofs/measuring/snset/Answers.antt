use Rattle.std.proofs.Common.{rules}
use Rattle.vcm_syntax.proofs.measuring.snset.Goals as goal

pub returns-in_err-length : goal.returns-in_err-length
returns-in_err-length c = search rules
