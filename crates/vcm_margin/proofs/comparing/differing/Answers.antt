use Rattle.std.proofs.Common.{rules}
use Rattle.vcm_margin.proofs.comparing.differing.Goals as goal

pub returns-in_err-index-clause-alike : goal.returns-in_err-index-clause-alike
returns-in_err-index-clause-alike g c = search rules

pub returns-then-is_same_feature-clause-alike : goal.returns-then-is_same_feature-clause-alike
returns-then-is_same_feature-clause-alike g c = search rules
