use Rattle.vcm_spec.proofs.StayingAtRest.{opens_at_rest, stays_at_rest}
use Rattle.vcm_spec.proofs.laws.the_probe_stays_at_rest.Goals as goal

pub returns-clause-opens : goal.returns-clause-opens
returns-clause-opens c = opens_at_rest

pub returns-clause-stays : goal.returns-clause-stays
returns-clause-stays c = stays_at_rest
