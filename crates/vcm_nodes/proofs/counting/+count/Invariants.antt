use Rattle.std.proofs.Common.{◌≡◌, ◌+◌, drop}
use Rattle.vcm_spec.specs.Program.{sizes, case_sizes}
use Rattle.vcm_nodes.specs.Nodes.{block_of, cases_of, other_of}
use Rattle.vcm_nodes.proofs.counting.+count.Given as goal

abbrev pub invariant-count-loop-node : goal.invariant-count-loop-node
invariant-count-loop-node l = l.all + sizes (block_of (drop l.node-index l.node-items)) ≡ sizes l.block

abbrev pub invariant-count_cases-loop-block : goal.invariant-count_cases-loop-block
invariant-count_cases-loop-block l = l.all + case_sizes (cases_of (drop l.block-index l.block-items) (other_of l.cases)) ≡ case_sizes l.cases
