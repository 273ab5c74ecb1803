use Rattle.std.proofs.Common.{◌≡◌, ◌∙◌}
use Rattle.vcm_debug.specs.inner.Going.{begun}
use Rattle.vcm_debug.proofs.Copies.{pushed}
use Rattle.vcm_debug.proofs.checkpoints.Checkpoints.keep.Goals as goal

pub returns-in-Ok : goal.returns-in-Ok
returns-in-Ok g c = λ m here kept. pushed (λ k. k.machine ≡ begun m k.count) _ _ _ _ c.push.ensures.items kept (c.in-Ok.ensures ∙ here)
