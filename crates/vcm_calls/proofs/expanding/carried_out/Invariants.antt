use Rattle.std.proofs.Common.{◌≡◌, ◌++◌, None, length}
use Rattle.std.specs.Prelude.{reverse}
use Rattle.vcm_calls.specs.Carried.{carried_text, carried_out}
use Rattle.vcm_calls.proofs.expanding.carried_out.Given as goal

abbrev pub invariant-loop-statement : goal.invariant-loop-statement
invariant-loop-statement l = l.calls.items ++ carried_text (reverse l.macros.items) None l.rest ≡ carried_out l.statements

abbrev pub decreases-loop-statement : goal.decreases-loop-statement
decreases-loop-statement l = length l.rest
