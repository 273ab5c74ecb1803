use Rattle.vcm_meant.proofs.Ordered.{in_order}
use Rattle.vcm_meant.proofs.laws.remarks_are_in_order.Goals as goal

pub returns : goal.returns
returns c = in_order
