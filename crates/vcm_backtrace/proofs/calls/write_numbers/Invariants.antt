use Rattle.std.specs.Prelude.{true}
use Rattle.vcm_print.proofs.Steps.{TookUpTo}
use Rattle.vcm_calls.specs.Chains.{chain_before, chain}
use Rattle.vcm_backtrace.specs.Calls.{numbers_in}
use Rattle.vcm_backtrace.proofs.calls.write_numbers.Given as goal

abbrev pub invariant-loop-left : goal.invariant-loop-left
invariant-loop-left g l = record {
  took : TookUpTo (g.W.Write.contents l.fn.writer) (g.W.Write.contents l.writer) (numbers_in l.is_first (chain_before l.calls l.left l.depth)) (numbers_in true (chain l.calls l.expansion));
}

abbrev pub decreases-loop-left : goal.decreases-loop-left
decreases-loop-left g l = l.left
