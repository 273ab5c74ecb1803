use Rattle.std.proofs.Common.{rules}
use Rattle.vcm_program.proofs.tables.variable_at.Goals as goal

pub returns-clause-some : goal.returns-clause-some
returns-clause-some c = search rules
