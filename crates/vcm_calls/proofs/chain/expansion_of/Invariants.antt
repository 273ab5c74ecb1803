use Rattle.std.proofs.Common.{◌≡◌, drop}
use Rattle.vcm_calls.specs.Chains.{expansion_of}
use Rattle.vcm_calls.proofs.chain.expansion_of.Given as goal

abbrev pub invariant-loop-placed : goal.invariant-loop-placed
invariant-loop-placed l = expansion_of (drop l.placed-index l.all) l.left ≡ expansion_of l.all l.number
