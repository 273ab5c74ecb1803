use Rattle.std.proofs.Common.{rules}
use Rattle.vcm_macro.proofs.expansion.Expansion.stand_written.Goals as goal

pub returns-clause-ok : goal.returns-clause-ok
returns-clause-ok c = search rules
