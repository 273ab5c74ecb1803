use Rattle.vcm_macro.proofs.Arguments.{AreGiven}
use Rattle.vcm_macro.proofs.expanding.put_all.Given as goal

abbrev pub invariant-loop-argument : goal.invariant-loop-argument
invariant-loop-argument l = AreGiven l.wanted l.bindings l.written l.argument-index l.arguments.items
