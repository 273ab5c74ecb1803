use Rattle.vcm_wire.proofs.RequestLemmas.{one_request}
use Rattle.vcm_wire.proofs.laws.requests_are_one.Goals as goal

pub returns : goal.returns
returns c = one_request
