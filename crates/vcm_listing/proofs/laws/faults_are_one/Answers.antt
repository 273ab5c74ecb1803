use Rattle.vcm_listing.proofs.FaultLaws.{one_fault, none_of_valid}
use Rattle.vcm_listing.proofs.laws.faults_are_one.Goals as goal

pub returns-clause-one : goal.returns-clause-one
returns-clause-one c = one_fault

pub returns-clause-none : goal.returns-clause-none
returns-clause-none c = none_of_valid
