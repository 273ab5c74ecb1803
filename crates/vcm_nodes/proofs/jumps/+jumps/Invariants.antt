use Rattle.std.proofs.Common.{◌≡◌, drop}
use Rattle.vcm_nodes.specs.Nodes.{block_of, cases_of, other_of}
use Rattle.vcm_nodes.specs.Jumps.{own_labels}
use Rattle.vcm_nodes.specs.inner.Judging.{with_labels}
use Rattle.vcm_nodes.proofs.Jumping.{IsJudged}
use Rattle.vcm_nodes.proofs.CaseSteps.{AreJudged}
use Rattle.vcm_nodes.proofs.jumps.+jumps.Given as goal

abbrev pub invariant-check_block-loop-node : goal.invariant-check_block-loop-node
invariant-check_block-loop-node l = record {
  same : l.reach ≡ with_labels l.fn.reach (own_labels l.block);
  judged : IsJudged l.all (with_labels l.fn.reach (own_labels l.block)) l.block (block_of (drop l.node-index l.node-items));
}

abbrev pub invariant-check_cases-loop-block : goal.invariant-check_cases-loop-block
invariant-check_cases-loop-block l = record {
  same : l.reach ≡ l.fn.reach;
  judged : AreJudged l.all l.fn.reach l.cases (cases_of (drop l.block-index l.block-items) (other_of l.cases));
}
