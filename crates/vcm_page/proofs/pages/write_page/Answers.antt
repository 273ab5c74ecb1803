use Rattle.std.proofs.Common.{ap, ◌∙◌}
use Rattle.vcm_steps.specs.Passages.{steps_taken}
use Rattle.vcm_page.proofs.PageLemmas.{not_counted}
use Rattle.vcm_page.proofs.pages.write_page.Goals as goal

pub write_counted-requires-clause-counted : goal.write_counted-requires-clause-counted
write_counted-requires-clause-counted g c = c.in-Ok-count_steps.ensures.counted ∙ ap (λ p. steps_taken p c.args.loaded.now c.args.steps) c.in-Ok.ensures.meaning

pub returns-clause-fault : goal.returns-clause-fault
returns-clause-fault g c = not_counted _ _ c.in-Ok.ensures.meaning c.args.loaded.now _ c.args.steps c.in-Err.fault _ c.in-Err.ensures.fault
