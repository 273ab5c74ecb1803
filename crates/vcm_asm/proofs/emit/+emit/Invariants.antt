use Rattle.std.proofs.Common.{◌≡◌, ◌≤◌, suc, ◌+◌, ◌++◌, drop, length}
use Rattle.vcm_spec.specs.Program.{size, sizes, case_sizes}
use Rattle.vcm_nodes.specs.Nodes.{node_of, block_of, cases_of, other_of}
use Rattle.vcm_asm.specs.inner.Spelled.{BlockKeeps, CasesKeep}
use Rattle.vcm_asm.specs.inner.Depth.{Deep, CasesDeep}
use Rattle.vcm_asm.specs.Assembled.{block_code, case_code, place_in}
use Rattle.vcm_asm.proofs.emit.+emit.Given as goal

abbrev pub decreases-emit_block : goal.decreases-emit_block
decreases-emit_block l = suc (sizes l.block.now)

abbrev pub decreases-emit_node : goal.decreases-emit_node
decreases-emit_node l = size (node_of l.node.now)

abbrev pub invariant-emit_block-loop-node : goal.invariant-emit_block-loop-node
invariant-emit_block-loop-node l =
    (l.code ++ block_code (place_in l.numbers) (block_of (drop l.node-index l.node-items)) l.depth (length l.code)
    ≡ l.initial.code ++ block_code (place_in l.numbers) l.block l.depth (length l.initial.code))
    × Deep (block_of (drop l.node-index l.node-items)) l.depth
    × (length l.code + sizes (block_of (drop l.node-index l.node-items)) ≤ 20000)
    × (sizes (block_of (drop l.node-index l.node-items)) ≤ sizes l.block)
    × (BlockKeeps (block_of (drop l.node-index l.node-items)) → BlockKeeps l.block)

abbrev pub decreases-emit_cases : goal.decreases-emit_cases
decreases-emit_cases l = suc (case_sizes l.cases.now)

abbrev pub invariant-emit_cases-loop-line : goal.invariant-emit_cases-loop-line
invariant-emit_cases-loop-line l =
    (l.code ++ case_code (place_in l.numbers) (cases_of (drop l.line-index l.line-items) (other_of l.cases)) l.depth (length l.code) l.behind
    ≡ l.initial.code ++ case_code (place_in l.numbers) l.cases l.depth (length l.initial.code) l.behind)
    × CasesDeep (cases_of (drop l.line-index l.line-items) (other_of l.cases)) l.depth
    × (length l.code + case_sizes (cases_of (drop l.line-index l.line-items) (other_of l.cases)) ≤ 20000)
    × (case_sizes (cases_of (drop l.line-index l.line-items) (other_of l.cases)) ≤ case_sizes l.cases)
    × (CasesKeep (cases_of (drop l.line-index l.line-items) (other_of l.cases)) → CasesKeep l.cases)
