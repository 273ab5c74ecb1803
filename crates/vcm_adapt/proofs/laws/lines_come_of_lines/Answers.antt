use Rattle.vcm_adapt.proofs.Whole.{adapted_lines, adapted_count}
use Rattle.vcm_adapt.proofs.laws.lines_come_of_lines.Goals as goal

pub returns-clause-lines : goal.returns-clause-lines
returns-clause-lines c = adapted_lines

pub returns-clause-count : goal.returns-clause-count
returns-clause-count c = adapted_count
