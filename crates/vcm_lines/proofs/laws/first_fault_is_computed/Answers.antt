use Rattle.vcm_lines.proofs.FaultLaw.{first_is_told, none_is_clean}
use Rattle.vcm_lines.proofs.laws.first_fault_is_computed.Goals as goal

pub returns-clause-told : goal.returns-clause-told
returns-clause-told c = first_is_told

pub returns-clause-none : goal.returns-clause-none
returns-clause-none c = none_is_clean
