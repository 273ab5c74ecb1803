use Rattle.std.specs.Prelude.{flat_map}
use Rattle.vcm_print.proofs.Steps.{TookUpTo}
use Rattle.vcm_calls.specs.Chains.{chain_before, chain}
use Rattle.vcm_backtrace.specs.Calls.{call_line}
use Rattle.vcm_backtrace.proofs.calls.write_chain.Given as goal

abbrev pub invariant-loop-left : goal.invariant-loop-left
invariant-loop-left g l = record {
  took : TookUpTo (g.W.Write.contents l.fn.writer) (g.W.Write.contents l.writer)
      (flat_map (call_line l.text l.statements) (chain_before l.calls l.left l.depth)) (flat_map (call_line l.text l.statements) (chain l.calls l.expansion));
}

abbrev pub decreases-loop-left : goal.decreases-loop-left
decreases-loop-left g l = l.left
