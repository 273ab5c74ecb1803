use Rattle.std.proofs.Common.{rules}
use Rattle.vcm_nodes.proofs.labels.Labels.add.Goals as goal

pub returns-clause-new : goal.returns-clause-new
returns-clause-new c = search rules

pub returns-clause-added : goal.returns-clause-added
returns-clause-added c = search rules
