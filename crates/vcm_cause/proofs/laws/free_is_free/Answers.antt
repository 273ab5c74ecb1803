use Rattle.vcm_cause.proofs.Freed.{over_is_free, beside_is_free}
use Rattle.vcm_cause.proofs.laws.free_is_free.Goals as goal

pub returns-clause-over : goal.returns-clause-over
returns-clause-over c = over_is_free

pub returns-clause-beside : goal.returns-clause-beside
returns-clause-beside c = beside_is_free
