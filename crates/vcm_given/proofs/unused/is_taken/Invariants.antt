use Rattle.std.proofs.Common.{◌≡◌, drop}
use Rattle.vcm_given.specs.Unused.{is_taken, nothing_above}
use Rattle.vcm_given.proofs.unused.is_taken.Given as goal

abbrev pub invariant-loop-statement : goal.invariant-loop-statement
invariant-loop-statement l = record {
  left : is_taken l.name nothing_above l.said ≡ is_taken l.name l.above (drop l.statement-index l.said);
}
