use Rattle.std.proofs.Common.{rules}
use Rattle.vcm_syntax.proofs.parse.parse_statement.Goals as goal

pub returns-clause-line : goal.returns-clause-line
returns-clause-line c = search rules
