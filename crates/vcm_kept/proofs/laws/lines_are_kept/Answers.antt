use Rattle.vcm_kept.proofs.LinesKept.{each_is_on_its_line, all_are_on_lines}
use Rattle.vcm_kept.proofs.laws.lines_are_kept.Goals as goal

pub returns-clause-each : goal.returns-clause-each
returns-clause-each c = each_is_on_its_line

pub returns-clause-all : goal.returns-clause-all
returns-clause-all c = all_are_on_lines
