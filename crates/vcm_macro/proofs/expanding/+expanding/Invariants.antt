use Rattle.std.proofs.Common.{◌+◌, ◌*◌, length}
use Rattle.std.specs.Prelude.{reverse}
use Rattle.vcm_macro.specs.Walk.{call_in}
use Rattle.vcm_macro.proofs.Bodies.{IsDone}
use Rattle.vcm_macro.proofs.expanding.+expanding.Given as goal

abbrev pub decreases-call : goal.decreases-call
decreases-call l = 2 * length l.macros.now

abbrev pub decreases-body : goal.decreases-body
decreases-body l = 2 * length l.macros.now + 1

abbrev pub invariant-body-loop-statement : goal.invariant-body-loop-statement
invariant-body-loop-statement l = IsDone (call_in (reverse l.macros)) l.bindings l.depth l.statements l.statement-index l.fn.done l.done
