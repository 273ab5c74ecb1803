use Rattle.std.proofs.Common.{◌≡◌, drop}
use Rattle.vcm_nodes.specs.Nodes.{block_of}
use Rattle.vcm_nodes.specs.Jumps.{own_labels}
use Rattle.vcm_nodes.specs.inner.Judging.{with_labels}
use Rattle.vcm_nodes.proofs.jumps.enter.Given as goal

abbrev pub invariant-loop-node : goal.invariant-loop-node
invariant-loop-node l = record {
  labels : with_labels l.fn.reach (own_labels l.block) ≡ with_labels l.reach (own_labels (block_of (drop l.node-index l.node-items)));
}
