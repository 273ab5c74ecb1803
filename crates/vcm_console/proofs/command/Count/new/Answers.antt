use Rattle.std.proofs.Common.{rules}
use Rattle.vcm_console.proofs.command.Count.new.Goals as goal

pub invariant_of-result : goal.invariant_of-result
invariant_of-result c = search rules

pub returns-then-number-le-MOST-clause-is : goal.returns-then-number-le-MOST-clause-is
returns-then-number-le-MOST-clause-is c = search rules
