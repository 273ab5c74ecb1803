use Rattle.vcm_carried.proofs.Bodies.{body_is, body_unique, one_box}
use Rattle.vcm_carried.proofs.laws.body_contact_is_computed.Goals as goal

pub returns-clause-computed : goal.returns-clause-computed
returns-clause-computed c = body_is

pub returns-clause-unique : goal.returns-clause-unique
returns-clause-unique c = body_unique

pub returns-clause-one : goal.returns-clause-one
returns-clause-one c = one_box
