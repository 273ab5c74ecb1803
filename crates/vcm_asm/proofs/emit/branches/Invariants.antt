use Rattle.std.proofs.Common.{◌≡◌, ◌+◌, ◌++◌, drop}
use Rattle.vcm_spec.specs.Program.{case_sizes}
use Rattle.vcm_nodes.specs.Nodes.{cases_of, other_of}
use Rattle.vcm_asm.specs.Assembled.{branches_of, last_target}
use Rattle.vcm_asm.proofs.emit.branches.Given as goal

abbrev pub invariant-loop-value : goal.invariant-loop-value
invariant-loop-value l =
    (l.branches ++ branches_of (cases_of (drop l.value-index l.value-items) (other_of l.cases)) l.number ≡ branches_of l.cases l.first)
    × (last_target (cases_of (drop l.value-index l.value-items) (other_of l.cases)) l.number ≡ last_target l.cases l.first)
    × (l.number + case_sizes (cases_of (drop l.value-index l.value-items) (other_of l.cases)) ≡ l.first + case_sizes l.cases)
