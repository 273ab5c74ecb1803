use Rattle.std.proofs.Common.{rules}
use Rattle.vcm_part.proofs.data.PartData.with_tip.Goals as goal

pub invariant_of-result : goal.invariant_of-result
invariant_of-result c = search rules

pub returns-clause-may : goal.returns-clause-may
returns-clause-may c = search rules
