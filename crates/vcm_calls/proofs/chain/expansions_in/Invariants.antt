use Rattle.std.proofs.Common.{◌≡◌, ◌++◌, drop}
use Rattle.vcm_calls.specs.Chains.{expansions}
use Rattle.vcm_calls.proofs.chain.expansions_in.Given as goal

abbrev pub invariant-loop-placed : goal.invariant-loop-placed
invariant-loop-placed l = l.numbers.items ++ expansions (drop l.placed-index l.all) ≡ expansions l.all
