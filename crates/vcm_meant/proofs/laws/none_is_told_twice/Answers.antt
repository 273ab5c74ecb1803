use Rattle.vcm_meant.proofs.Once.{told_none_twice}
use Rattle.vcm_meant.proofs.laws.none_is_told_twice.Goals as goal

pub returns : goal.returns
returns c = told_none_twice
