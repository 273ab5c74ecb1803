use Rattle.vcm_page.proofs.PageLemmas.{counted, halted}
use Rattle.vcm_page.proofs.pages.count_steps.Goals as goal

pub returns-clause-counted : goal.returns-clause-counted
returns-clause-counted g c = counted _ _ _ _ _ c.run-ran.result c.in-Ok.ensures c.run-ran.ensures (c.is_halted.ensures.ample c.if-is_halted.false)

pub returns-then-is_halted-clause-fault : goal.returns-then-is_halted-clause-fault
returns-then-is_halted-clause-fault g c = halted _ _ _ _ _ c.run-ran.result c.in-Ok.ensures c.run-ran.ensures (c.is_halted.ensures.halted c.if-is_halted.true)
