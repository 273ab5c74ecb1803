use Rattle.std.proofs.Common.{ap, ◌∙◌}
use Rattle.vcm_cause.specs.Watched.{seen}
use Rattle.vcm_set_views.specs.Fit.{steps_of}
use Rattle.vcm_set_views.specs.Reasons.{known_behind}
use Rattle.vcm_set_views.proofs.Chaining.{chain_known}
use Rattle.vcm_set_views.proofs.reasons.set_why.Goals as goal

pub write_reason-requires-clause-known : goal.write_reason-requires-clause-known
write_reason-requires-clause-known c =
    let f = c.args.fitted.now in
    let steps = steps_of f c.in_ok-ending.ending.end.done in
    chain_known seen f.part f.probes c.before_steps-progress.result c.run_seen.new.to steps c.in_ok-ending.ensures.seen
    ∙ ap (λ b. known_behind f.part f.probes b steps) c.before_steps-progress.ensures
