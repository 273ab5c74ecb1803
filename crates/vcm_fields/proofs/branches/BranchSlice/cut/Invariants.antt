use Rattle.vcm_fields.specs.Readers.{branch_at}
use Rattle.vcm_fields.proofs.LoopInverse.{Progress}
use Rattle.vcm_fields.proofs.branches.BranchSlice.cut.Given as goal

abbrev pub invariant-loop : goal.invariant-loop
invariant-loop l = Progress branch_at l.count l.counter l.bytes l.rest
