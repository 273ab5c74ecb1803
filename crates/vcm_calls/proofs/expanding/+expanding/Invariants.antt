use Rattle.std.proofs.Common.{◌≡◌, ◌+◌, ◌*◌, ◌++◌, length, drop}
use Rattle.std.specs.Prelude.{reverse}
use Rattle.vcm_calls.specs.Carried.{carried, carried_in}
use Rattle.vcm_calls.proofs.expanding.+expanding.Given as goal

abbrev pub decreases-call : goal.decreases-call
decreases-call l = 2 * length l.macros.now

abbrev pub decreases-body : goal.decreases-body
decreases-body l = 2 * length l.macros.now + 1

abbrev pub invariant-body-loop-statement : goal.invariant-body-loop-statement
invariant-body-loop-statement l =
    l.calls.items ++ carried_in (carried (reverse l.macros)) l.depth (drop l.statement-index l.statements)
    ≡ l.fn.calls.items ++ carried_in (carried (reverse l.macros)) l.depth l.statements
