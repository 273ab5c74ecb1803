use Rattle.std.proofs.Common.{rules}
use Rattle.vcm_trace.proofs.rows.write_rows.Goals as goal

pub returns-clause-written : goal.returns-clause-written
returns-clause-written g c = search rules

pub returns-clause-fault : goal.returns-clause-fault
returns-clause-fault g c = search rules
