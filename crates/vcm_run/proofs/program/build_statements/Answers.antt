use Rattle.std.proofs.Common.{rules}
use Rattle.vcm_run.proofs.program.build_statements.Goals as goal

pub returns-in-Ok-built_of-clause-built : goal.returns-in-Ok-built_of-clause-built
returns-in-Ok-built_of-clause-built c = search rules
