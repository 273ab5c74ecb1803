use Rattle.vcm_lines.proofs.OneReading.{one_statements}
use Rattle.vcm_lines.proofs.laws.statements_are_one.Goals as goal

pub returns : goal.returns
returns c = one_statements
