use Rattle.std.proofs.Common.{rules}
use Rattle.vcm_nodes.proofs.jumps.enter.Goals as goal

pub loop-node-init : goal.loop-node-init
loop-node-init c = search rules
