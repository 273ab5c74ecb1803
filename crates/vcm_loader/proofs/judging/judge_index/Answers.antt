use Rattle.std.proofs.Common.{rules}
use Rattle.vcm_loader.proofs.judging.judge_index.Goals as goal

pub returns-clause-ok : goal.returns-clause-ok
returns-clause-ok c = search rules
