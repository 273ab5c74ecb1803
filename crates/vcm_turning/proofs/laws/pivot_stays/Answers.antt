use Rattle.vcm_turning.proofs.Pivots.{pivot_is_kept}
use Rattle.vcm_turning.proofs.laws.pivot_stays.Goals as goal

pub returns : goal.returns
returns c = pivot_is_kept
