use Rattle.vcm_code.proofs.Checked.{wants_hold}
use Rattle.vcm_loader.proofs.judging.judge_items.Goals as goal

pub returns-then-has_kind-clause-ok : goal.returns-then-has_kind-clause-ok
returns-then-has_kind-clause-ok g c = wants_hold _ _ _ (c.has_kind.ensures.so c.if-has_kind.true)
