use Rattle.vcm_dap.proofs.adapter.answer_moving.Goals as goal

pub returns-then-is_continue : goal.returns-then-is_continue
returns-then-is_continue g c = rw c.if-is_continue.true c.run_on.ensures.told

pub returns-else-is_continue : goal.returns-else-is_continue
returns-else-is_continue g c = rw c.if-is_continue.false c.done.ensures.told
