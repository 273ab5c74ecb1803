use Rattle.std.proofs.Common.{◌≡◌, ◌≤◌, suc, ◌+◌, ◌++◌, drop}
use Rattle.vcm_spec.specs.Program.{size, sizes, case_sizes}
use Rattle.vcm_nodes.specs.Nodes.{node_of, block_of, cases_of, other_of}
use Rattle.vcm_asm.specs.Assembled.{marks, case_marks}
use Rattle.vcm_asm.proofs.marking.+mark.Given as goal

abbrev pub decreases-mark_block : goal.decreases-mark_block
decreases-mark_block l = suc (sizes l.block.now)

abbrev pub decreases-mark_node : goal.decreases-mark_node
decreases-mark_node l = size (node_of l.node.now)

abbrev pub invariant-mark_block-loop-node : goal.invariant-mark_block-loop-node
invariant-mark_block-loop-node l =
    (l.numbers ++ marks (block_of (drop l.node-index l.node-items)) l.number ≡ l.initial.numbers ++ marks l.block l.base)
    × (l.number + sizes (block_of (drop l.node-index l.node-items)) ≡ l.base + sizes l.block)
    × (sizes (block_of (drop l.node-index l.node-items)) ≤ sizes l.block)

abbrev pub decreases-mark_cases : goal.decreases-mark_cases
decreases-mark_cases l = suc (case_sizes l.cases.now)

abbrev pub invariant-mark_cases-loop-block : goal.invariant-mark_cases-loop-block
invariant-mark_cases-loop-block l =
    (l.numbers ++ case_marks (cases_of (drop l.block-index l.block-items) (other_of l.cases)) l.number ≡ l.initial.numbers ++ case_marks l.cases l.base)
    × (l.number + case_sizes (cases_of (drop l.block-index l.block-items) (other_of l.cases)) ≡ l.base + case_sizes l.cases)
    × (case_sizes (cases_of (drop l.block-index l.block-items) (other_of l.cases)) ≤ case_sizes l.cases)
