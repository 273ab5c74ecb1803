use Rattle.std.proofs.Common.{rules}
use Rattle.vcm_nodes.proofs.node.Label.copy.Goals as goal

pub returns : goal.returns
returns c = search rules
