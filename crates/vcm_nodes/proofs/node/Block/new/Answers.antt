use Rattle.std.proofs.Common.{ap}
use Rattle.vcm_nodes.specs.Nodes.{block_of}
use Rattle.vcm_nodes.proofs.node.Block.new.Goals as goal

pub returns : goal.returns
returns c = ap block_of c.new.ensures.items
