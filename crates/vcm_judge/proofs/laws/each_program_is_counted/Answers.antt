use Rattle.vcm_judge.proofs.Counted.{each_counted}
use Rattle.vcm_judge.proofs.laws.each_program_is_counted.Goals as goal

pub returns : goal.returns
returns c = each_counted
