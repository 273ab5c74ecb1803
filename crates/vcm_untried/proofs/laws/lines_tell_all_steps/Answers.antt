use Rattle.vcm_untried.proofs.Summed.{lines_tell_all_steps, groups_are_sums}
use Rattle.vcm_untried.proofs.Agreed.{counts_agree}
use Rattle.vcm_untried.proofs.laws.lines_tell_all_steps.Goals as goal

pub returns-clause-steps : goal.returns-clause-steps
returns-clause-steps c = lines_tell_all_steps

pub returns-clause-sums : goal.returns-clause-sums
returns-clause-sums c = groups_are_sums

pub returns-clause-counts : goal.returns-clause-counts
returns-clause-counts c = counts_agree
