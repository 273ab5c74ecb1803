use Rattle.std.proofs.Common.{sym, ◌∙◌}
use Rattle.vcm_debug.proofs.Changes.{quiet}
use Rattle.vcm_debug.proofs.forward.watched_change.Goals as goal

pub returns-then-not-noting : goal.returns-then-not-noting
returns-then-not-noting c = λ b e. sym (quiet 0 c.args.watches.now b c.args.now.now (sym c.requires.noting ∙ c.if-not-noting.true))
