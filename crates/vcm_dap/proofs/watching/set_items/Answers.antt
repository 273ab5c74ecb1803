use Rattle.std.proofs.Common.{ap, ◌∙◌}
use Rattle.vcm_debug.specs.Debugging.{Debugging}
use Rattle.vcm_dap.proofs.Watches.{watches_count}
use Rattle.vcm_dap.proofs.watching.set_items.Goals as goal

pub returns-clause-same : goal.returns-clause-same
returns-clause-same g c =
    ap (λ (x : Debugging). x.count) c.watch_all.ensures ∙ watches_count c.asked_variables.new.session c.deref.result.now
    ∙ ap (λ (x : Debugging). x.count) c.asked_variables.ensures.same
