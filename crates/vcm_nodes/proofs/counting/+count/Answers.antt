use Rattle.std.proofs.Common.{rules}
use Rattle.vcm_nodes.proofs.counting.+count.Goals as goal

pub count_node-returns-in-None : goal.count_node-returns-in-None
count_node-returns-in-None t c = search rules

pub count_node-returns-in-Select : goal.count_node-returns-in-Select
count_node-returns-in-Select t c = search rules
