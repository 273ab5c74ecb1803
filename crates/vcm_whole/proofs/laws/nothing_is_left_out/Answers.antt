use Rattle.vcm_whole.proofs.LeftOut.{nothing_is_left_out, each_has_its_line, silent_ones}
use Rattle.vcm_whole.proofs.laws.nothing_is_left_out.Goals as goal

pub returns-clause-all : goal.returns-clause-all
returns-clause-all c = nothing_is_left_out

pub returns-clause-lines : goal.returns-clause-lines
returns-clause-lines c = each_has_its_line

pub returns-clause-silent : goal.returns-clause-silent
returns-clause-silent c = silent_ones
